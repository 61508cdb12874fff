-- What a change of the lines of all queues may rest on, and what it leaves (own).
use Rattle.std.specs.Prelude.{◌≡◌, ◌⊎◌, ℕ, List, true, false, Some}
use Rattle.model.specs.Topology.{IsIn}
use Rattle.model.specs.declared.events.Event.{Event}
use Rattle.waiting_lines.specs.Order.{Queue}
use Rattle.channels.specs.Open.{Open}
use Rattle.channels.specs.RunningConnections.{channel_of}
use Rattle.channels.specs.declared.consumers.Consumer.{Consumer}
use Rattle.commands.specs.State.{Kept, broker_of}
use Rattle.commands.specs.Picked.{CannotTake}
use Rattle.commands.specs.declared.acted.Ends.{Ends}
use Rattle.commands.specs.declared.picks.Pick.{Pick}
use Rattle.broker.specs.Leaving.{leavers_of, remains, IsNamed}
use Rattle.broker.specs.Rounds.{line_of, order, wakes, IsNotAsleepAt}

-- each consumer that the event of channel `h` of connection `c` ends, and that is in a line, is named with that line's queue
abbrev pub AreNamed : ℕ → ℕ → Ends → List (Queue Pick) → Type 0
AreNamed c h ends lines = (place : ℕ) (p : Pick) → IsIn p (order (line_of lines place)) → remains (leavers_of c h ends) p ≡ false → IsNamed c h ends place p

-- each consumer that may be able to take more after `event` is awake in its line, or can't take a message now
abbrev pub AreAwakeAfter : Event → Kept → List (Queue Pick) → Type 0
AreAwakeAfter event kept lines = (p : Pick) (ch : Open) (k : Consumer) → wakes event p ≡ true
    → channel_of kept.connections p.connection p.channel ≡ Some ch → IsIn k ch.given.consumers → k.number ≡ p.number
    → IsNotAsleepAt lines k.queue p ⊎ CannotTake (broker_of kept) p
