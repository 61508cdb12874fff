-- What becomes of the queues when a borrow of one of them ends.
use Rattle.std.specs.Prelude.{ℕ, List, slice_set}
use Rattle.std.specs.Borrow.{Lends, MutBor, Fml}
use Rattle.queue.specs.Line.{Line}
use Rattle.queue.specs.contracts.indexed.Indexed.{the_row as queue_row}
use Rattle.depot.specs.contracts.queues.Queues.{the_row}

-- when the borrow `queue` ends, the queue at index `place` is what was last written to it
abbrev pub LendsQueue : MutBor (List Line) → ℕ → MutBor Line → Fml
LendsQueue queues place queue = Lends the_row queue_row queues queue (slice_set queues.now place)
