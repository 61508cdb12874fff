use Rattle.serving.proofs.Names.{[], ◌++◌, none_more, Did}
use Rattle.runs.proofs.Onward.{works_one}
use Rattle.serving.proofs.turns.work.Goals as goal

pub loop-turns-init : goal.loop-turns-init
loop-turns-init g c = ([], none_more)

pub loop-turns-preserved-in-Some : goal.loop-turns-preserved-in-Some
loop-turns-preserved-in-Some g c =
    let world = g.M.Machine.world in
    let did : Did (world c.loop-turns.machine) c.args.c c.in-Some.field-0.items (world c.turn.new.self) = rw c.in-Some.is at c.in_ok-turn.ensures.ok in
    (c.loop-turns.invariant.0 ++ did.0, works_one c.args.c (world c.args.machine.now) (world c.loop-turns.machine) (world c.turn.new.self) c.loop-turns.invariant.0 did.0 c.loop-turns.invariant.1 did.2)

pub loop-turns-preserved-in-Some-2 : goal.loop-turns-preserved-in-Some-2
loop-turns-preserved-in-Some-2 g c =
    let world = g.M.Machine.world in
    let did : Did (world c.loop-turns.machine) c.args.c c.in-Some.field-0.items (world c.turn.new.self) = rw c.in-Some.is at c.in_ok-turn.ensures.ok in
    (c.loop-turns.invariant.0 ++ did.0, works_one c.args.c (world c.args.machine.now) (world c.loop-turns.machine) (world c.turn.new.self) c.loop-turns.invariant.0 did.0 c.loop-turns.invariant.1 did.2)
