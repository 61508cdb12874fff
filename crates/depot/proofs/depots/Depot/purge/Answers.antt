use Rattle.depot.proofs.Absent.{absent, purged_absent}
use Rattle.depot.proofs.depots.Depot.purge.Goals as goal

pub returns-in_default-clause-ok : goal.returns-in_default-clause-ok
returns-in_default-clause-ok c =
    purged_absent c.args.self.now c.args.name.now c.args.notes.now.items
    (absent c.args.self.now c.topology.result.now c.args.name.now c.topology.ensures c.in_default.ensures.absent)
