use Rattle.depot.proofs.Named.{queue_of-changed, queue_of-place}
use Rattle.depot.proofs.depots.ghost_indices_are_named.Goals as goal

pub returns : goal.returns
returns c = λ s place whole lt. record {
  entries_are = queue_of-place s place whole lt;
  changed = λ entries q. queue_of-changed s place entries q whole lt;
}
