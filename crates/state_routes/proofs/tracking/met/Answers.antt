use Rattle.state_routes.proofs.Names.{List, [], ◌+◌, ◌++◌, length, ap, subst, ◌∙◌, Exchange, DeclaredQueue, Hop, Gate, any_links, AreEntered, IsUnfixedEnd, links_in}
use Rattle.state_routes.proofs.Collecting.{within_as}
use Rattle.state_routes.proofs.tracking.met.Goals as goal

pub reached-requires-clause-within : goal.reached-requires-clause-within
reached-requires-clause-within c =
    within_as c.args.topology.now c.args.mode c.args.queue.now c.in_ok-deaths.deaths.items
    (subst (λ (z : List DeclaredQueue). AreEntered c.args.topology.now [] (IsUnfixedEnd c.args.topology.now) z c.in_ok-deaths.deaths.items) c.dying.ensures c.in_ok-deaths.ensures)
    (length c.exchanges.result.now + 4) c.as_slice-2.result.now (ap (λ (xs : List Exchange). length xs + 4) c.exchanges.ensures)
    (c.as_slice-2.ensures.value ∙ c.in_ok-add_links.ensures
    ∙ ap (λ (z : List Hop). z ++ links_in c.as_slice.result.now) c.in_ok-links.ensures
    ∙ ap (λ (z : List Gate). any_links c.args.topology.now c.args.queue.now ++ links_in z) c.as_slice.ensures.value)
