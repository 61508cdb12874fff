use Rattle.guarantee_search.proofs.Names.{◌≡◌, indices_from}
use Rattle.guarantee_search.proofs.forms.all_indices.Given as goal

abbrev pub invariant-loop-index : goal.invariant-loop-index
invariant-loop-index l = l.indices.items ≡ indices_from 0 l.index
