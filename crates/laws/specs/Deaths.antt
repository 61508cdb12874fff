-- Worked examples of dead letters, which the checker computes: what one and two
-- deaths make of a message, one that comes back to its queue, and what no death does.
use Rattle.std.specs.Prelude.{◌≡◌, ◌++◌, List, [], ◌∷◌, length, codes, false, Option, Some, None}
use Rattle.model.specs.Words.{Text}
use Rattle.model.specs.Topology.{Topology}
use Rattle.model.specs.Guarantee.{Guarantee, Holds}
use Rattle.model.specs.Message.{Message}
use Rattle.model.specs.Broker.{Outstanding}
use Rattle.model.specs.Headers.{no_properties, header_bytes}
use Rattle.model.specs.Deaths.{first_death, AreMarked}
use Rattle.model.specs.Deliveries.{AreRejected, holder_of}
use Rattle.model.specs.Letters.{AreRejections}
use Rattle.model.specs.declared.contents.Content.{Content}
use Rattle.model.specs.declared.messages.Entry.{Entry}
use Rattle.model.specs.declared.messages.Mark.TheVariants.{Ready, Held}
use Rattle.model.specs.declared.messages.Taker.TheVariants as taker
use Rattle.model.specs.declared.notes.Cause.TheVariants.{Rejected}
use Rattle.model.specs.declared.notes.Note.{Note}
use Rattle.model.specs.declared.notes.Note.TheVariants.{Entered, Refused, Left}
use Rattle.model.specs.declared.notes.Way.TheVariants.{Dead}
use Rattle.model.specs.declared.topologies.Binding.{Binding}
use Rattle.model.specs.declared.topologies.DeclaredQueue.{DeclaredQueue}
use Rattle.model.specs.declared.topologies.Exchange.{Exchange}
use Rattle.model.specs.declared.topologies.ExchangeKind.{ExchangeKind}
use Rattle.model.specs.declared.topologies.ExchangeKind.TheVariants.{Direct, Fanout, Topic}
use Rattle.model.specs.declared.topologies.Mode.TheVariants.{Never}
use Rattle.model.specs.declared.topologies.Destination.TheVariants as destination
use Rattle.laws.specs.Rows.{one_queue}

-- ---- topologies

-- An exchange of this name and type, without an alternate exchange.
abbrev pub one_exchange : Text → ExchangeKind → Exchange
one_exchange name kind = record { name = name; kind = kind; internal = false; alternate = None }

-- A queue called `name` with this dead-letter exchange, if any, and this dead-letter key, if any.
abbrev pub queue_with : Text → Option Text → Option Text → DeclaredQueue
queue_with name exchange key = record { name = name; limit = None; byte_limit = None; dead_letter_exchange = exchange; dead_letter_key = key }

-- A binding from the exchange `source` to the queue `queue` under `key`.
abbrev pub binding_to_queue : Text → Text → Text → Binding
binding_to_queue source key queue = record { source = source; to = destination.Queue queue; key = key }

-- `Y` leads to `q1`, which dead-letters to `D` under the key `pay`. From there `D` leads to
-- `billing`, which dead-letters to `E` under the message's own key, and `E` leads to `q3`.
abbrev pub deaths : Topology
deaths = record {
  exchanges = one_exchange (codes "Y") Fanout ∷ one_exchange (codes "D") Direct ∷ one_exchange (codes "E") Fanout ∷ [];
  queues = queue_with (codes "q1") (Some (codes "D")) (Some (codes "pay")) ∷ queue_with (codes "billing") (Some (codes "E")) None
      ∷ queue_with (codes "q3") None None ∷ [];
  bindings = binding_to_queue (codes "Y") [] (codes "q1") ∷ binding_to_queue (codes "D") (codes "pay") (codes "billing")
      ∷ binding_to_queue (codes "E") [] (codes "q3") ∷ [];
}

-- `X` leads to `q` under keys whose first word is `a`, and `q` dead-letters to `X`. Nothing leads to `q2`.
abbrev pub circle : Topology
circle = record {
  exchanges = one_exchange (codes "X") Topic ∷ [];
  queues = queue_with (codes "q") (Some (codes "X")) None ∷ queue_with (codes "q2") None None ∷ [];
  bindings = binding_to_queue (codes "X") (codes "a.#") (codes "q") ∷ [];
}

-- `q1` dead-letters to `D`, which leads to `full`, which takes nothing, and to `billing`.
abbrev pub full_topology : Topology
full_topology = record {
  exchanges = one_exchange (codes "D") Fanout ∷ [];
  queues = queue_with (codes "q1") (Some (codes "D")) None ∷ record (queue_with (codes "full") None None) { limit = Some 0 }
      ∷ queue_with (codes "billing") None None ∷ [];
  bindings = binding_to_queue (codes "D") [] (codes "billing") ∷ binding_to_queue (codes "D") [] (codes "full") ∷ [];
}

-- ---- messages

-- The body `hi` with these headers.
abbrev pub content_with : Option Text → Content
content_with headers = record { properties = record no_properties { headers = headers }; body = codes "hi" }

-- The first publish, which was sent to the exchange `published` under the key `a`, as it is after it was last sent to `exchange` under `key`.
abbrev pub first_publish : Text → Text → Text → Option Text → Message
first_publish published exchange key headers =
    record {
      number = 1;
      first_exchange = published;
      first_key = codes "a";
      exchange = exchange;
      key = key;
      content = content_with headers;
      redelivered = false;
      survived = false;
    }

-- The delivery of a get from `queue`, on channel 1 of connection 1 under tag 1.
abbrev pub got_from : Text → Outstanding
got_from queue = record { tag = 1; queue = queue; by = taker.Get }

-- The queues before the rejection: `queue` alone has the message, held by the delivery `got_from queue`.
abbrev pub while_held : Text → Message → Text → List Entry
while_held queue m = one_queue queue (record { message = m; mark = Held (holder_of 1 1 (got_from queue)) } ∷ [])

-- The message `m` is rejected in the queue `from`, and then the queue `to` has `letter` alone. `notes` are all notes after the one that `m` left.
pub record EndsIn (t : Topology) (from to : Text) (m letter : Message) (notes : List Note) : Type 0 where
  pub after : Text → List Entry
  pub rejected : AreRejected t 1 1 (got_from from ∷ []) (while_held from m) (Left 1 from Rejected ∷ notes) after
  pub enters : after to ≡ record { message = letter; mark = Ready } ∷ []

-- The message dies in the queue `from`, and its dead letter enters the queue `to` and no other.
abbrev pub DiesTo : Topology → Text → Text → Message → Message → Type 0
DiesTo t from to m letter = EndsIn t from to m letter (Entered 1 to Dead ∷ [])

-- ---- what deaths make of a message

-- The headers after the death in `q1`.
abbrev pub in_q1 : Option Text
in_q1 = Some (first_death (codes "q1") (codes "Y"))

-- The headers after the death in `q`.
abbrev pub in_q : Option Text
in_q = Some (first_death (codes "q") (codes "X"))

-- What the definitions say of worked deaths: a first and a second one, a full queue, and a circle of exchanges.
pub record WorkedDeaths : Type 0 where
  -- The dead letter is in `billing` as one sent to `D` under `pay`, with the headers of its death.
  pub first : DiesTo deaths (codes "q1") (codes "billing") (first_publish (codes "Y") (codes "Y") (codes "a") None)
      (first_publish (codes "Y") (codes "D") (codes "pay") in_q1)
  -- That dead letter dies in `billing`. Its own dead letter is in `q3` as one sent to `E` under `pay`, with the headers of the first death.
  pub second : DiesTo deaths (codes "billing") (codes "q3") (first_publish (codes "Y") (codes "D") (codes "pay") in_q1)
      (first_publish (codes "Y") (codes "E") (codes "pay") in_q1)
  -- Class 60, weight 0, a body of 2 bytes, headers alone, and a table of 90 bytes.
  pub header : header_bytes 2 (content_with in_q1).properties
      ≡ (0 ∷ 60 ∷ 0 ∷ 0 ∷ 0 ∷ 0 ∷ 0 ∷ 0 ∷ 0 ∷ 0 ∷ 0 ∷ 2 ∷ 32 ∷ 0 ∷ 0 ∷ 0 ∷ 0 ∷ 90 ∷ []) ++ first_death (codes "q1") (codes "Y")
  pub whole : length (header_bytes 2 (content_with in_q1).properties) ≡ 108
  -- A full queue refuses the dead letter and another takes it, in the order of the file.
  pub refused : EndsIn full_topology (codes "q1") (codes "billing") (first_publish (codes "Y") (codes "Y") (codes "a") None)
      (first_publish (codes "Y") (codes "D") (codes "a") in_q1) (Refused 1 (codes "full") ∷ Entered 1 (codes "billing") Dead ∷ [])
  -- If the dead-letter exchange leads back, the dead letter enters the queue where the message died. If it dies there again, its dead letter is the same.
  pub round : DiesTo circle (codes "q") (codes "q") (first_publish (codes "X") (codes "X") (codes "a") None)
      (first_publish (codes "X") (codes "X") (codes "a") in_q)
  pub round_again : DiesTo circle (codes "q") (codes "q") (first_publish (codes "X") (codes "X") (codes "a") in_q)
      (first_publish (codes "X") (codes "X") (codes "a") in_q)

-- ---- what deaths do not do

-- What is sent to `exchange` never reaches `queue`.
abbrev pub never_to : Text → Text → Guarantee
never_to exchange queue = record { mode = Never; exchange = exchange; pattern = codes "#"; queue = queue; excepts = [] }

-- The queues with the first publish held in `q1`.
abbrev pub while_in_q1 : Text → List Entry
while_in_q1 = while_held (codes "q1") (first_publish (codes "Y") (codes "Y") (codes "a") None)

-- What the definitions refuse: a dead letter that is lost, a second death in the headers, and guarantees that forget deaths.
pub record DeathsRefuse : Type 0 where
  -- Notes of a rejection name its dead letter, and each queue once.
  pub letter_not_noted : AreRejections deaths while_in_q1 [] (Left 1 (codes "q1") Rejected ∷ []) → ⊥
  pub letter_noted_twice : AreRejections deaths while_in_q1 []
      (Left 1 (codes "q1") Rejected ∷ Entered 1 (codes "billing") Dead ∷ Entered 1 (codes "billing") Dead ∷ []) → ⊥
  -- Only a full queue refuses the dead letter, and it enters no queue to which it doesn't go on.
  pub refused_by_none : AreRejections deaths while_in_q1 [] (Left 1 (codes "q1") Rejected ∷ Refused 1 (codes "billing") ∷ []) → ⊥
  pub entered_another : AreRejections deaths while_in_q1 [] (Left 1 (codes "q1") Rejected ∷ Entered 1 (codes "q3") Dead ∷ []) → ⊥
  -- A dead letter is not lost if a queue takes it.
  pub lost : (after : Text → List Entry) → AreRejected deaths 1 1 (got_from (codes "q1") ∷ [])
      (while_held (codes "q1") (first_publish (codes "Y") (codes "Y") (codes "a") None)) (Left 1 (codes "q1") Rejected ∷ []) after → ⊥
  -- The headers describe no second death.
  pub two_deaths : AreMarked (codes "billing") (codes "D") in_q1 (Some (first_death (codes "q1") (codes "Y") ++ first_death (codes "billing") (codes "D"))) → ⊥
  -- A guarantee that forgets where dead letters go does not hold.
  pub forgets : Holds deaths (never_to (codes "Y") (codes "billing")) → ⊥
  pub forgets_second : Holds deaths (never_to (codes "Y") (codes "q3")) → ⊥
  pub forgets_route : Holds circle (never_to (codes "X") (codes "q")) → ⊥
  -- A guarantee that is kept by dead letters, too, holds.
  pub kept : Holds circle (never_to (codes "X") (codes "q2"))
