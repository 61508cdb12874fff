use Rattle.server.proofs.Names.{take, AreKept, AreSetUp}
use Rattle.server.proofs.replaying.arrivals_of.Given as goal

abbrev pub invariant-loop-one : goal.invariant-loop-one
invariant-loop-one g l = record {
  set_up : AreSetUp (g.F.Files.holds l.initial.files) (take l.one-index l.said) l.arrivals.items;
  kept : AreKept (g.F.Files.holds l.initial.files) (g.F.Files.holds l.files);
}
