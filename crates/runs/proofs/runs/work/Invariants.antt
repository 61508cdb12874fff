use Rattle.runs.proofs.Onward.{SoFar}
use Rattle.runs.proofs.runs.work.Given as goal

abbrev pub invariant-loop-notes : goal.invariant-loop-notes
invariant-loop-notes g l = record { so_far : SoFar (g.M.Machine.world l.fn.machine) l.c l.fn.transcript (g.M.Machine.world l.machine) l.transcript }

abbrev pub decreases-loop-notes : goal.decreases-loop-notes
decreases-loop-notes g l = g.M.Machine.left l.machine
