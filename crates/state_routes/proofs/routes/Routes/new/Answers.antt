use Rattle.state_routes.proofs.Names.{◌∙◌, ◌+◌, List, length, ap, Exchange, alternate_links}
use Rattle.state_routes.proofs.Sure.{alternates_below, bounded_as, gates_as, gates_below, known_as}
use Rattle.state_routes.proofs.routes.Routes.new.Goals as goal

pub exits_of-requires-clause-gates : goal.exits_of-requires-clause-gates
exits_of-requires-clause-gates c =
    gates_below c.args.topology.now c.args.mode c.args.queue.now c.args.letters.now c.as_slice.result.now (length c.exchanges-exchanges.result.now + 4)
    (gates_as c.args.topology.now c.args.mode c.args.queue.now c.args.letters.now _ _ _ c.patterns.ensures c.as_slice.ensures.value c.in_ok-gates.ensures)
    (ap (λ (xs : List Exchange). length xs + 4) c.exchanges-exchanges.ensures)

pub exits_of-requires-clause-alternates : goal.exits_of-requires-clause-alternates
exits_of-requires-clause-alternates c =
    alternates_below c.args.topology.now c.as_slice-2.result.now (length c.exchanges-exchanges.result.now + 4)
    (c.as_slice-2.ensures.value ∙ c.in_ok-alternates.ensures ∙ ap (λ (xs : List Exchange). alternate_links c.args.topology.now.exchanges xs) c.exchanges-exchanges.ensures)
    (ap (λ (xs : List Exchange). length xs + 4) c.exchanges-exchanges.ensures)

pub invariant_of-result : goal.invariant_of-result
invariant_of-result c =
    bounded_as c.args.topology.now c.args.mode c.args.exchange.now c.args.queue.now c.args.letters.now c.as_slice.result.now c.as_slice-2.result.now (length c.exchanges-exchanges.result.now + 4) c.node.result c.in_ok-exits_of.field-0.items
    (gates_as c.args.topology.now c.args.mode c.args.queue.now c.args.letters.now _ _ _ c.patterns.ensures c.as_slice.ensures.value c.in_ok-gates.ensures)
    (c.as_slice-2.ensures.value ∙ c.in_ok-alternates.ensures ∙ ap (λ (xs : List Exchange). alternate_links c.args.topology.now.exchanges xs) c.exchanges-exchanges.ensures)
    (ap (λ (xs : List Exchange). length xs + 4) c.exchanges-exchanges.ensures)
    c.node.ensures.is
    c.in_ok-exits_of.ensures

pub returns : goal.returns
returns c =
    known_as c.args.topology.now c.args.mode c.args.exchange.now c.args.queue.now c.args.letters.now c.as_slice.result.now c.as_slice-2.result.now (length c.exchanges-exchanges.result.now + 4) c.node.result c.in_ok-exits_of.field-0.items
    c.ghost_is_well_formed.ensures
    (gates_as c.args.topology.now c.args.mode c.args.queue.now c.args.letters.now _ _ _ c.patterns.ensures c.as_slice.ensures.value c.in_ok-gates.ensures)
    (c.as_slice-2.ensures.value ∙ c.in_ok-alternates.ensures ∙ ap (λ (xs : List Exchange). alternate_links c.args.topology.now.exchanges xs) c.exchanges-exchanges.ensures)
    (ap (λ (xs : List Exchange). length xs + 4) c.exchanges-exchanges.ensures)
    c.node.ensures.is
    c.in_ok-exits_of.ensures
