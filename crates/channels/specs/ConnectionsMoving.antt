-- Connections whose channels get the new indices of their queues.
use Rattle.std.specs.Prelude.{◌≡◌, ℕ, List, map, Option, Some, option_map}
use Rattle.model.specs.Words.{Text}
use Rattle.channels.specs.Open.{Open}
use Rattle.channels.specs.Moving.{open_moved, AreNamedAlike}
use Rattle.channels.specs.RunningConnections.{Running, channel_of, seen_in}

-- each open channel, with the queues that it names at their new indices, `places`
abbrev pub channels_moved : List ℕ → List (Option Open) → List (Option Open)
channels_moved places channels = map (option_map (open_moved places)) channels

-- a connection, with the queues that its channels name at their new indices
abbrev pub running_moved : List ℕ → Running → Running
running_moved places l = record l { channels = channels_moved places l.channels }

-- all connections, with the new indices of the queues that their channels name
abbrev pub connections_moved : List ℕ → List (ℕ × Running) → List (ℕ × Running)
connections_moved places connections = map (λ e. (e.0, running_moved places e.1)) connections

-- if each queue that a channel names has the same name at its new index, the model sees no difference on any channel
abbrev pub MovesAreUnseen : Type 0
MovesAreUnseen = (old new : List Text) (places : List ℕ) (connections : List (ℕ × Running))
    → ((c h : ℕ) (ch : Open) → channel_of connections c h ≡ Some ch → AreNamedAlike old new places ch)
    → (c h : ℕ) → seen_in new (connections_moved places connections) c h ≡ seen_in old connections c h
