use Rattle.commands.proofs.Names.{◌≡◌, ◌∙◌, ◌<◌, sym, subst, IfSome, IfNone, same_Some, Topology, IsIn, queue_names, queue_name, Kept, topology_kept}
use Rattle.std.proofs.Common.{length}
use Rattle.commands.specs.NewConsumers.{IsConsumed}
use Rattle.commands.proofs.Picking.{place_of_name}
use Rattle.commands.proofs.cores.Core.queue_consumed.Goals as goal

pub returns-clause-reported : goal.returns-clause-reported
returns-clause-reported c = λ place is.
    let kept : Kept = record { store = c.self.inside.depot; connections = c.self.inside.connections } in
    let t : Topology = topology_kept kept in
    let name = c.as_bytes.result.now in
    let here : IsConsumed t c.args.event.now place = subst (λ (k : Kept). IsConsumed (topology_kept k) c.args.event.now place) (sym c.self.view_is) is in
    let named : queue_name t place ≡ name = sym (same_Some c.in_ok-name.name.now (queue_name t place) (c.in_ok-name.ensures ∙ here.named)) ∙ sym c.as_bytes.ensures in
    place_of_name t name c.queue_at.result place c.ghost_is_whole.ensures.formed.queues_distinct
    (subst (λ (x : Topology). IfSome c.queue_at.result (λ i. i < length x.queues)) c.topology.ensures c.queue_at.ensures.within)
    (subst (λ (x : Topology). IfSome c.queue_at.result (λ i. queue_name x i ≡ name)) c.topology.ensures c.queue_at.ensures.named)
    (subst (λ (x : Topology). IfNone c.queue_at.result (IsIn name (queue_names x.queues) → ⊥)) c.topology.ensures c.queue_at.ensures.absent)
    here.within named
