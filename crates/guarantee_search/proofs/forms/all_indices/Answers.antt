use Rattle.guarantee_search.proofs.Names.{◌∙◌, ◌++◌, ◌∷◌, [], List, ℕ, sym, ap}
use Rattle.guarantee_search.proofs.Deciding.{one_index_more}
use Rattle.guarantee_search.proofs.forms.all_indices.Goals as goal

pub loop-index-preserved : goal.loop-index-preserved
loop-index-preserved c =
    c.in_ok-push.ensures.items ∙ ap (λ (z : List ℕ). z ++ c.loop-index.index ∷ []) c.loop-index.invariant ∙ sym (one_index_more c.loop-index.index)
