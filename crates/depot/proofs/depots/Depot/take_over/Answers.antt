use Rattle.depot.proofs.Names.{◌≡◌, ◌∙◌, [], length, map, ap, sym, subst, Topology, AreDistinct, queue_names, survived_now, Store, entries_named, entries_of, AreMoved, GoneAreEmpty}
use Rattle.std.proofs.Common.{replicate}
use Rattle.depot.proofs.Changes.{entries_of-length}
use Rattle.depot.proofs.Moved.{store_taken}
use Rattle.depot.proofs.depots.Depot.take_over.Goals as goal

pub returns-clause-entries : goal.returns-clause-entries
returns-clause-entries c q =
    let self : Store = record { topology = c.self.inside.router; queues = entries_of c.self.inside.queues; published = c.self.inside.published } in
    let old : Store = record { topology = c.old.inside.router; queues = entries_of c.old.inside.queues; published = c.old.inside.published } in
    let moved : AreMoved (queue_names old.topology.queues) (queue_names self.topology.queues) c.args.indices.now
    = subst (λ (s : Store). AreMoved (queue_names s.topology.queues) (queue_names self.topology.queues) c.args.indices.now) (sym c.old.view_is)
    (subst (λ (s : Store). AreMoved (queue_names c.args.old.topology.queues) (queue_names s.topology.queues) c.args.indices.now) (sym c.self.view_is) c.requires.moved) in
    let empty : self.queues ≡ replicate (length self.topology.queues) [] = subst (λ (s : Store). s.queues ≡ replicate (length s.topology.queues) []) (sym c.self.view_is) c.requires.empty in
    let gone : GoneAreEmpty old (queue_names self.topology.queues)
    = subst (λ (s : Store). GoneAreEmpty s (queue_names self.topology.queues)) (sym c.old.view_is) (subst (λ (s : Store). GoneAreEmpty c.args.old (queue_names s.topology.queues)) (sym c.self.view_is) c.requires.gone) in
    store_taken old self c.args.indices.now (entries_of c.take_over.new.self)
    (subst (λ (t : Topology). AreDistinct (queue_names t.queues)) c.topology-2.ensures c.ghost_is_well_formed-2.ensures.queues_distinct)
    (subst (λ (t : Topology). AreDistinct (queue_names t.queues)) c.topology.ensures c.ghost_is_well_formed.ensures.queues_distinct)
    (entries_of-length c.old.inside.queues ∙ c.old.invariant) moved empty gone c.take_over.ensures.entries q
    ∙ ap (λ (s : Store). map survived_now (entries_named s q)) c.old.view_is
