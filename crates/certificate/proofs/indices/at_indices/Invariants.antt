use Rattle.certificate.proofs.Names.{◌≡◌, ◌++◌, drop, at_indices}
use Rattle.certificate.proofs.indices.at_indices.Given as goal

abbrev pub invariant-loop-one : goal.invariant-loop-one
invariant-loop-one l = l.found.items ++ at_indices l.list (drop l.one-index l.indices) ≡ at_indices l.list l.indices
