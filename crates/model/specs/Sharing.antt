-- A message, from the block that all of its copies share and the two marks of one copy (own).
use Rattle.std.specs.Prelude.{Bool}
use Rattle.model.specs.Message.{Message}
use Rattle.model.specs.declared.messages.Sent.{Sent}
use Rattle.model.specs.declared.messages.Sending.{Sending}
use Rattle.model.specs.declared.messages.Sending.TheVariants.{Once, Again}
use Rattle.model.specs.declared.messages.Shared.{Shared}

-- The exchange and the key of the message's publish, which a dead letter keeps.
abbrev pub first_sent : Sending → Sent
first_sent (Once sent) = sent
first_sent (Again resent) = resent.value.first

-- The exchange and the key with which it was sent last.
abbrev pub last_sent : Sending → Sent
last_sent (Once sent) = sent
last_sent (Again resent) = resent.value.last

-- The message of one copy: `s` is shared, and the two marks are the copy's own.
abbrev pub message_of : Shared → Bool → Bool → Message
message_of s redelivered survived =
    let first : Sent = first_sent s.sending in
    let last : Sent = last_sent s.sending in
    record {
      number = s.number;
      first_exchange = first.exchange;
      first_key = first.key;
      exchange = last.exchange;
      key = last.key;
      content = s.content;
      redelivered = redelivered;
      survived = survived;
    }
