use Rattle.depot.proofs.Names.{◌≡◌, ap, sym, subst, ◌∙◌, arith, Some, bytes_eq, Topology, queue_named, DeclaredQueue, ready_count, Store, entries_named, queue_at, entries_of}
use Rattle.std.proofs.Common.{option_map, position}
use Rattle.depot.proofs.Changes.{entries_of-length}
use Rattle.depot.proofs.Naming.{ready_none, ready_some}
use Rattle.depot.proofs.depots.Depot.ready.Goals as goal

pub returns-in_err-place : goal.returns-in_err-place
returns-in_err-place c =
    let at : c.queue_at.result ≡ position (λ (q : DeclaredQueue). bytes_eq q.name c.args.name.now) c.self.inside.router.queues =
    c.queue_at.ensures.index ∙ ap (λ (t : Topology). position (λ (q : DeclaredQueue). bytes_eq q.name c.args.name.now) t.queues) c.topology-topology.ensures in
    subst (λ (s : Store). c.from_residual.result ≡ option_map (λ (q : DeclaredQueue). ready_count (entries_named s c.args.name.now)) (queue_named s.topology.queues c.args.name.now)) c.self.view_is
    (c.from_residual.ensures ∙ sym (ready_none c.self.inside.router.queues (entries_of c.self.inside.queues) c.args.name.now c.queue_at.result (sym at) c.in_err-place.was))

pub returns : goal.returns
returns c =
    let whole = c.self.invariant in
    let all = entries_of-length c.self.inside.queues in
    let at : Some c.in_ok-place.place ≡ position (λ (q : DeclaredQueue). bytes_eq q.name c.args.name.now) c.self.inside.router.queues =
    c.in_ok-place.ensures.index ∙ ap (λ (t : Topology). position (λ (q : DeclaredQueue). bytes_eq q.name c.args.name.now) t.queues) c.topology-topology.ensures in
    subst (λ (s : Store). Some c.ready_at.result ≡ option_map (λ (q : DeclaredQueue). ready_count (entries_named s c.args.name.now)) (queue_named s.topology.queues c.args.name.now)) c.self.view_is
    (ap Some (c.ready_at.ensures ∙ ap (λ (s : Store). ready_count (queue_at s c.in_ok-place.place)) (sym c.self.view_is)) ∙ sym (ready_some c.self.inside.router.queues (entries_of c.self.inside.queues) c.args.name.now c.in_ok-place.place (sym at) (omega arith)))
