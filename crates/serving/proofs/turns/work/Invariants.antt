use Rattle.serving.proofs.Names.{List, Happening, Works}
use Rattle.serving.proofs.turns.work.Given as goal

abbrev pub invariant-loop-turns : goal.invariant-loop-turns
invariant-loop-turns g l = (hs : List Happening) × Works l.c (g.M.Machine.world l.fn.machine) hs (g.M.Machine.world l.machine)

abbrev pub decreases-loop-turns : goal.decreases-loop-turns
decreases-loop-turns g l = g.M.Machine.left l.machine
