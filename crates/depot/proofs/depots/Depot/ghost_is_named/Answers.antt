use Rattle.depot.proofs.Named.{queue_of-changed, queue_of-place}
use Rattle.depot.proofs.depots.Depot.ghost_is_named.Goals as goal

pub returns : goal.returns
returns c = record {
  entries_are = queue_of-place c.args.self.now c.args.index c.ghost_is_whole.ensures c.requires;
  changed = λ entries q. queue_of-changed c.args.self.now c.args.index entries q c.ghost_is_whole.ensures c.requires;
}
