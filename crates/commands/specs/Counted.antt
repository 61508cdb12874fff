-- Counts of consumers, by queue.
use Rattle.std.specs.Prelude.{◌<◌, ℕ, length}
use Rattle.channels.specs.Counting.{CountsConsumers}
use Rattle.commands.specs.State.{Kept, topology_kept}

-- whatever `IsCount` says of a queue that exists is the number of its consumers
abbrev pub AreCounted : Kept → (ℕ → ℕ → Type 0) → Type 0
AreCounted kept IsCount = (queue count : ℕ) → queue < length (topology_kept kept).queues → IsCount queue count → CountsConsumers kept.connections queue count
