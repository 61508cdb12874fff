-- Which consumers still exist after an event.
use Rattle.std.specs.Prelude.{◌≡◌, ◌==◌, ◌&&◌, ℕ, Bool, false, Option, Some, None}
use Rattle.model.specs.Topology.{IsIn}
use Rattle.model.specs.Broker.{Broker}
use Rattle.model.specs.Broker as seen
use Rattle.model.specs.Consuming.{is_in_use}
use Rattle.model.specs.declared.methods.Cancel.{Cancel}
use Rattle.model.specs.declared.methods.Method.{Method}
use Rattle.model.specs.declared.methods.Method.TheVariants.{BasicCancel}
use Rattle.model.specs.declared.events.Event.{Event}
use Rattle.model.specs.declared.events.Event.TheVariants.{Command, TooLarge}
use Rattle.laws.specs.Consumers.{WasConsumer}
use Rattle.channels.specs.Open.{Open}
use Rattle.channels.specs.RunningConnections.{Running, channel_of, running_in}
use Rattle.channels.specs.Seats.{IsTagged}
use Rattle.channels.specs.declared.consumers.Consumer.{Consumer}
use Rattle.channels.specs.declared.consumers.Seat.{Seat}
use Rattle.replies.specs.Sent.{connection_of_event}
use Rattle.commands.specs.State.{Kept, broker_of}
use Rattle.commands.specs.declared.acted.Ends.{Ends}
use Rattle.commands.specs.declared.acted.Ends.TheVariants as ended

-- each consumer still exists
abbrev pub AllConsumersStay : Broker → Broker → Type 0
AllConsumersStay old new = (c h : ℕ) (k : seen.Consumer) → WasConsumer old c h k → WasConsumer new c h k

-- The consumer at `s` of channel `h` of connection `c` is gone, and each other still exists.
pub record LosesConsumer (c h : ℕ) (s : Seat) (old new : Kept) : Type 0 where
  -- it took from the queue that `s` names
  pub queue : (ch : Open) (k : Consumer) → channel_of old.connections c h ≡ Some ch → IsIn k ch.given.consumers → k.number ≡ s.number → k.queue ≡ s.queue
  pub gone : (k : seen.Consumer) → WasConsumer (broker_of new) c h k → k.number ≡ s.number → ⊥
  pub others : (d l : ℕ) (k : seen.Consumer) → (d == c && (l == h && k.number == s.number)) ≡ false → WasConsumer (broker_of old) d l k
      → WasConsumer (broker_of new) d l k

-- Channel `h` of connection `c` has no consumer now, and each consumer of another channel still exists.
pub record EmptiesChannel (c h : ℕ) (old new : Broker) : Type 0 where
  pub gone : (k : seen.Consumer) → WasConsumer new c h k → ⊥
  pub others : (d l : ℕ) (k : seen.Consumer) → (d == c && l == h) ≡ false → WasConsumer old d l k → WasConsumer new d l k

-- Connection `c` has no consumer now, and each consumer of another connection still exists.
pub record EmptiesConnection (c : ℕ) (old new : Broker) : Type 0 where
  pub gone : (h : ℕ) (k : seen.Consumer) → WasConsumer new c h k → ⊥
  pub others : (d l : ℕ) (k : seen.Consumer) → (d == c) ≡ false → WasConsumer old d l k → WasConsumer new d l k

-- the consumers of connection `c` are gone, and `o` is what it was before; `None` if it was not running
abbrev pub LosesConnection : ℕ → Option Running → Kept → Kept → Type 0
LosesConnection c o old new = (o ≡ running_in old.connections c) × EmptiesConnection c (broker_of old) (broker_of new)

-- What an `Ends` says of consumers after an event of channel `h` of connection `c`.
abbrev pub ReportsEnds : ℕ → ℕ → Ends → Kept → Kept → Type 0
ReportsEnds c h ended.Nothing old new = AllConsumersStay (broker_of old) (broker_of new)
ReportsEnds c h (ended.Consumer s) old new = LosesConsumer c h s old new
ReportsEnds c h (ended.Channel o) old new = (o ≡ channel_of old.connections c h) × EmptiesChannel c h (broker_of old) (broker_of new)
ReportsEnds c h (ended.Connection o) old new = LosesConnection c o old new

-- the channel that an event belongs to; 0 if it is not that of a command or of a publish
abbrev pub channel_of_event : Event → ℕ
channel_of_event (Command c h m content) = h
channel_of_event (TooLarge c h) = h
channel_of_event e = 0

-- The method cancels the consumer of this channel that waits at `s`.
pub record CancelsAt (o : Option Open) (m : Method) (s : Seat) : Type 0 where
  pub cancel : Cancel
  pub is : m ≡ BasicCancel cancel
  pub channel : Open
  pub there : o ≡ Some channel
  pub tagged : IsTagged channel cancel.consumer_tag s

-- whether the method cancels a consumer that the channel has
abbrev pub cancels_one : seen.Channel → Method → Bool
cancels_one ch (BasicCancel m) = is_in_use m.consumer_tag ch.consumers
cancels_one ch _ = false

-- what an event ends that cancels the consumer at `s`, or none
abbrev pub ends_of : Option Seat → Ends
ends_of None = ended.Nothing
ends_of (Some s) = ended.Consumer s
