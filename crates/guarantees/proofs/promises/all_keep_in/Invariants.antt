use Rattle.guarantees.proofs.Coverings.{AllKeepFrom}
use Rattle.guarantees.proofs.promises.all_keep_in.Given as goal

abbrev pub invariant-loop-except : goal.invariant-loop-except
invariant-loop-except l = AllKeepFrom l.excepts l.key l.except-index
