use Rattle.server.proofs.Names.{◌≡◌, ◌+◌, take}
use Rattle.server.proofs.Verdicts.{VerdictsReported}
use Rattle.server.proofs.judging.judge_by.Given as goal

abbrev pub invariant-loop-guarantee : goal.invariant-loop-guarantee
invariant-loop-guarantee l = record {
  reported : VerdictsReported l.topology (take l.guarantee-index l.guarantees) l.fn.draft l.text.items l.broken l.undecided l.file;
  number : l.number ≡ l.guarantee-index + 1;
}
