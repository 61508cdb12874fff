-- Consumers, and where they are among those of their queues.
use Rattle.std.specs.Prelude.{◌≡◌, ℕ, List, ◌==◌, Option, Some, None, slice_index_or}
use Rattle.model.specs.Words.{Text}
use Rattle.model.specs.Topology.{IsIn}
use Rattle.model.specs.Broker as seen
use Rattle.model.specs.Consuming.{is_tagged}
use Rattle.channels.specs.Open.{Open, open_in}
use Rattle.channels.specs.declared.consumers.Consumer.{Consumer}
use Rattle.channels.specs.declared.consumers.Seat.{Seat}

-- the seat `s` has the number and the queue of consumer `k`
abbrev pub IsSeatOf : Consumer → Seat → Type 0
IsSeatOf k s = (k.number ≡ s.number) × (k.queue ≡ s.queue)

-- the seat is that of the consumer, or there is neither
abbrev pub ReturnsSeat : Option Consumer → Option Seat → Type 0
ReturnsSeat None None = Unit {0}
ReturnsSeat (Some k) (Some s) = IsSeatOf k s
ReturnsSeat None (Some s) = ⊥
ReturnsSeat (Some k) None = ⊥

-- The seat `s` has the number and the queue of the consumer at this index.
pub record IsSeatAt (consumers : List Consumer) (index : ℕ) (s : Seat) : Type 0 where
  pub number : (d : Consumer) → s.number ≡ (slice_index_or consumers index d).number
  pub queue : (d : Consumer) → s.queue ≡ (slice_index_or consumers index d).queue

-- The seat `s` is that of the channel's consumer with the tag `tag`.
pub record IsTagged (ch : Open) (tag : Text) (s : Seat) : Type 0 where
  -- each consumer with this number takes from this queue
  pub queue : (k : Consumer) → IsIn k ch.given.consumers → k.number ≡ s.number → k.queue ≡ s.queue
  -- of the model's consumers exactly this one has the tag
  pub alone : (names : List Text) (k : seen.Consumer) → IsIn k (open_in names ch).consumers → is_tagged tag k ≡ (k.number == s.number)
