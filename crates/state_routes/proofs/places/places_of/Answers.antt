use Rattle.state_routes.proofs.Names.{◌∙◌, List, ℕ, [], ◌∷◌, ◌++◌, sym, ap, subst, arith, RiseBelow}
use Rattle.state_routes.proofs.Placing.{begun, are_places}
use Rattle.state_routes.proofs.places.places_of.Goals as goal

pub loop-place-init : goal.loop-place-init
loop-place-init c = subst (λ (z : List ℕ). RiseBelow 1 z) (sym (c.in_ok-push.ensures.items ∙ ap (λ (z : List ℕ). z ++ 0 ∷ []) c.new-places.ensures.items)) begun

pub returns : goal.returns
returns c = are_places c.args.list.now c.loop-place.place c.loop-place.places.items (omega arith) c.loop-place.invariant
