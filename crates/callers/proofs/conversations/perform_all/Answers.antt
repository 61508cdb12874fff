use Rattle.std.specs.Prelude.{[], ◌++◌}
use Rattle.model.specs.Arrivals.{none_more}
use Rattle.runs.specs.Opened.{Did}
use Rattle.callers.proofs.Turning.{works_more}
use Rattle.callers.proofs.conversations.perform_all.Goals as goal

pub turns-init : goal.turns-init
turns-init g c = record { works = ([], none_more) }

pub turns-preserved : goal.turns-preserved
turns-preserved g c =
    let world = g.M.Machine.world in
    let before = c.turns.invariant.works in
    let did : Did (world c.turns.machine) c.args.c c.in-Some._notes.items (world c.turn.new.self) = rw c.in-Some.is at c.in_ok-_notes.ensures.ok in
    record { works = (before.0 ++ did.0, works_more c.args.c (world c.args.machine.now) (world c.turns.machine) (world c.turn.new.self) before.0 did.0 before.1 did.2) }

pub turns-preserved-in-Some : goal.turns-preserved-in-Some
turns-preserved-in-Some g c =
    let world = g.M.Machine.world in
    let before = c.turns.invariant.works in
    let did : Did (world c.turns.machine) c.args.c c.in-Some._notes.items (world c.turn.new.self) = rw c.in-Some.is at c.in_ok-_notes.ensures.ok in
    record { works = (before.0 ++ did.0, works_more c.args.c (world c.args.machine.now) (world c.turns.machine) (world c.turn.new.self) before.0 did.0 before.1 did.2) }
