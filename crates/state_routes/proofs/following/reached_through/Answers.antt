use Rattle.state_routes.proofs.Names.{◌∙◌, ◌++◌, ◌∷◌, [], ℕ, List, ap, length, refl, set, false, true, replicate, open_through}
use Rattle.state_routes.proofs.Spreading.{spreads_first}
use Rattle.state_routes.proofs.following.reached_through.Goals as goal

pub follow-requires-clause-begun : goal.follow-requires-clause-begun
follow-requires-clause-begun c =
    rw (c.as_mut_slice.ensures.value, c.in_ok-marks.ensures)
    (spreads_first (open_through c.args.mode c.args.exits.now c.args.accepted.now) (length c.args.exits.now) c.args.start (set (replicate (length c.args.exits.now) false) c.args.start true) _ c.requires.begins refl
    (c.in_ok-push.ensures.items ∙ ap (λ (z : List ℕ). z ++ c.args.start ∷ []) c.new-rest.ensures.items))
