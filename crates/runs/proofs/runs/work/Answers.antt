use Rattle.runs.proofs.Names.{Did, DidNothing}
use Rattle.runs.proofs.Onward.{so_far_not, so_far_more, so_far_ends}
use Rattle.runs.proofs.runs.work.Goals as goal

pub loop-notes-init : goal.loop-notes-init
loop-notes-init g c = record { so_far = so_far_not (g.M.Machine.world c.args.machine.now) c.args.c c.args.transcript.now }

pub loop-notes-preserved : goal.loop-notes-preserved
loop-notes-preserved g c =
    let world = g.M.Machine.world in
    let did : Did (world c.loop-notes.machine) c.args.c c.in-Some.notes.items (world c.turn.new.self) = rw c.in-Some.is at c.in_ok-notes.ensures.ok in
    record {
      so_far = so_far_more (world c.args.machine.now) (world c.loop-notes.machine) (world c.turn.new.self) c.args.c c.args.transcript.now c.loop-notes.transcript c.note.new.self c.in-Some.notes.items c.loop-notes.invariant.so_far did c.in_ok-note.ensures.ok;
    }

pub returns : goal.returns
returns g c =
    let world = g.M.Machine.world in
    let nothing : DidNothing (world c.loop-notes.machine) c.args.c (world c.turn.new.self) = rw c.in_default.is at c.in_ok-notes.ensures.ok in
    so_far_ends (world c.args.machine.now) (world c.loop-notes.machine) (world c.turn.new.self) c.args.c c.args.transcript.now c.loop-notes.transcript c.loop-notes.invariant.so_far nothing
