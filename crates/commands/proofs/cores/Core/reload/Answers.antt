use Rattle.commands.proofs.Names.{◌≡◌, ◌∙◌, ℕ, List, map, sym, ap, subst, Topology, queue_names, survived_now, Store, entries_named, GoneAreEmpty, connections_moved, Kept, topology_kept}
use Rattle.commands.proofs.Reloading.{can_reload, gone_empty, placed_moved, all_stood}
use Rattle.commands.proofs.cores.Core.reload.Goals as goal

pub take_over-requires-clause-gone : goal.take_over-requires-clause-gone
take_over-requires-clause-gone c =
    let old : Kept = record { store = c.self.inside.depot; connections = c.self.inside.connections } in
    let t = c.args.topology in
    let can = can_reload old c.args.self.now t c.self.view_is c.requires.agreed c.requires.kept in
    let fresh : c.replace-old.new.dest.topology ≡ t = ap (λ (s : Store). s.topology) (c.replace-old.ensures.after ∙ c.in_ok-depot.ensures) in
    subst (λ (s : Store). GoneAreEmpty s (queue_names c.replace-old.new.dest.topology.queues)) (sym c.replace-old.ensures.value)
    (subst (λ (x : Topology). GoneAreEmpty old.store (queue_names x.queues)) (sym fresh) (gone_empty old t c.in_ok-places.places.items c.self.invariant can.0 can.1 c.in_ok-places.ensures))

pub invariant_of-self : goal.invariant_of-self
invariant_of-self c =
    let old : Kept = record { store = c.self.inside.depot; connections = c.self.inside.connections } in
    let new : Kept = record { store = c.take_over.new.self; connections = c.renumber.new.self } in
    let t = c.args.topology in
    let places = c.in_ok-places.places.items in
    let can = can_reload old c.args.self.now t c.self.view_is c.requires.agreed c.requires.kept in
    let topology : topology_kept new ≡ t = c.take_over.ensures.topology ∙ ap (λ (s : Store). s.topology) (c.replace-old.ensures.after ∙ c.in_ok-depot.ensures) in
    let made : new.connections ≡ connections_moved places old.connections = c.renumber.ensures ∙ ap (λ (ps : List ℕ). connections_moved ps old.connections) c.deref-2.ensures.value in
    placed_moved old t places c.self.invariant can.0 can.1 c.in_ok-places.ensures new topology made

pub returns-clause-survived : goal.returns-clause-survived
returns-clause-survived c =
    let old : Kept = record { store = c.self.inside.depot; connections = c.self.inside.connections } in
    let new : Kept = record { store = c.take_over.new.self; connections = c.renumber.new.self } in
    let t = c.args.topology in
    let places = c.in_ok-places.places.items in
    let can = can_reload old c.args.self.now t c.self.view_is c.requires.agreed c.requires.kept in
    let topology : topology_kept new ≡ t = c.take_over.ensures.topology ∙ ap (λ (s : Store). s.topology) (c.replace-old.ensures.after ∙ c.in_ok-depot.ensures) in
    let made : new.connections ≡ connections_moved places old.connections = c.renumber.ensures ∙ ap (λ (ps : List ℕ). connections_moved ps old.connections) c.deref-2.ensures.value in
    let published : new.store.published ≡ old.store.published = c.take_over.ensures.published ∙ ap (λ (s : Store). s.published) c.replace-old.ensures.value in
    rw (← c.self.view_is) (all_stood old t places c.self.invariant can.0 can.1 c.in_ok-places.ensures c.ghost_moves_are_unseen.ensures new topology made published
    (λ q. c.take_over.ensures.entries q ∙ ap (λ (s : Store). map survived_now (entries_named s q)) c.replace-old.ensures.value))
