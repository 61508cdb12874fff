use Rattle.std.specs.Prelude.{List}
use Rattle.model.specs.Run.{Happening}
use Rattle.model.specs.Arrivals.{Works}
use Rattle.callers.proofs.conversations.perform_all.Given as goal

abbrev pub invariant-turns : goal.invariant-turns
invariant-turns g l = record { works : (hs : List Happening) × Works l.c (g.M.Machine.world l.fn.machine) hs (g.M.Machine.world l.machine) }

abbrev pub decreases-turns : goal.decreases-turns
decreases-turns g l = g.M.Machine.left l.machine
