use Rattle.depot.proofs.Absent.{absent, told_absent, taken_absent, noted_absent}
use Rattle.depot.proofs.depots.Depot.take.Goals as goal

pub returns-in_default-clause-reported : goal.returns-in_default-clause-reported
returns-in_default-clause-reported c =
    told_absent c.args.self.now c.args.name.now c.args.how
    (absent c.args.self.now c.topology.result.now c.args.name.now c.topology.ensures c.in_default.ensures.absent)

pub returns-in_default-clause-taken : goal.returns-in_default-clause-taken
returns-in_default-clause-taken c =
    taken_absent c.args.self.now c.args.name.now c.args.how
    (absent c.args.self.now c.topology.result.now c.args.name.now c.topology.ensures c.in_default.ensures.absent)

pub returns-in_default-clause-notes : goal.returns-in_default-clause-notes
returns-in_default-clause-notes c =
    noted_absent c.args.self.now c.args.name.now c.args.how c.args.notes.now.items
    (absent c.args.self.now c.topology.result.now c.args.name.now c.topology.ensures c.in_default.ensures.absent)
