use Rattle.guarantees.proofs.Names.{into_iter_items, into_iter_len}
use Rattle.guarantees.proofs.Keeping.{KeptSoFar}
use Rattle.guarantees.proofs.reading.kept.Given as goal

abbrev pub invariant-loop-one : goal.invariant-loop-one
invariant-loop-one l = KeptSoFar l.found.items (into_iter_items l.one-iterator) (into_iter_items l.initial.one-iterator) (into_iter_len l.one-iterator)
