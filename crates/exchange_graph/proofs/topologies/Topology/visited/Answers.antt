use Rattle.exchange_graph.proofs.Names.{◌≡◌, ℕ, List, Bool, [], ◌∷◌, sym, ap, subst, ◌∙◌, IfOk-weaker, Text, Leads, Picks, of_key, Topology, exchange_names, Exchange, AreVisited, names_at, set_indices}
use Rattle.exchange_graph.proofs.Picking.{seen_picked, seen_within}
use Rattle.topic_match.proofs.Taken.{is_none}
use Rattle.exchange_graph.proofs.Starting.{not_empty}
use Rattle.exchange_graph.proofs.Visiting.{default_visited, others_visited}
use Rattle.exchange_graph.proofs.topologies.Topology.visited.Goals as goal

pub returns-then-is_empty : goal.returns-then-is_empty
returns-then-is_empty c =
    let none : c.args.exchange.now ≡ [] = (is_none c.args.exchange.now c.is_empty.result c.is_empty.ensures).0 c.if-is_empty.true in
    let one : c.in_ok-vec.field-0.items ≡ [] ∷ [] = c.in_ok-vec.ensures.items ∙ ap (λ (x : Text). x ∷ []) c.empty.ensures in
    subst (λ (x : Text). AreVisited c.args.self.now x c.args.key.now c.in_ok-vec.field-0.items) (sym none)
    (subst (λ (xs : List Text). AreVisited c.args.self.now [] c.args.key.now xs) (sym one) (default_visited c.args.self.now c.args.key.now c.ghost_is_well_formed.ensures))

pub names_at-requires : goal.names_at-requires
names_at-requires c k d h =
    let same : c.as_slice-3.result.now ≡ set_indices 0 c.see.new.scratch.seen.items = c.as_slice-3.ensures ∙ c.in_ok-places.ensures ∙ ap (λ (bs : List Bool). set_indices 0 bs) c.as_slice.ensures.value in
    let xs : c.as_slice-2.result.now ≡ c.args.self.now.exchanges = c.as_slice-2.ensures.value ∙ ap (λ (z : Topology). z.exchanges) c.self.view_is in
    rw (same, xs) (seen_within c.args.self.now c.args.exchange.now c.args.key.now c.see.new.scratch.seen.items c.in_ok-see.ensures k d (rw same at h))

pub returns : goal.returns
returns c =
    let same : c.as_slice-3.result.now ≡ set_indices 0 c.see.new.scratch.seen.items = c.as_slice-3.ensures ∙ c.in_ok-places.ensures ∙ ap (λ (bs : List Bool). set_indices 0 bs) c.as_slice.ensures.value in
    let xs : c.as_slice-2.result.now ≡ c.args.self.now.exchanges = c.as_slice-2.ensures.value ∙ ap (λ (z : Topology). z.exchanges) c.self.view_is in
    let some = not_empty c.args.exchange.now c.is_empty.result c.is_empty.ensures c.if-is_empty.false in
    IfOk-weaker c.names_at.result _ _
    (λ v e. others_visited c.args.self.now c.args.exchange.now c.args.key.now v.items c.ghost_is_well_formed.ensures some
    (subst (λ (ns : List Text). Picks (Leads c.args.self.now (of_key c.args.key.now) c.args.exchange.now) (exchange_names c.args.self.now.exchanges) ns)
    (sym (e ∙ ap (λ (ps : List ℕ). names_at (exchange_names c.as_slice-2.result.now) ps) same ∙ ap (λ (zs : List Exchange). names_at (exchange_names zs) (set_indices 0 c.see.new.scratch.seen.items)) xs))
    (seen_picked c.args.self.now c.args.exchange.now c.args.key.now c.see.new.scratch.seen.items c.in_ok-see.ensures)))
    c.names_at.ensures
