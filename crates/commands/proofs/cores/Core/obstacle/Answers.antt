use Rattle.commands.proofs.Names.{◌∙◌, ap, subst, queue_at, is_consumed, ShowsQueues, Kept, broker_of, topology_kept}
use Rattle.commands.proofs.LiveQueues.{standing, judged, may_allocate}
use Rattle.commands.proofs.cores.Core.obstacle.Goals as goal

pub returns-clause-reported : goal.returns-clause-reported
returns-clause-reported c =
    let kept : Kept = record { store = c.self.inside.depot; connections = c.self.inside.connections } in
    judged c.obstacle.result c.args.self.now c.topology.result.now c.args.topology.now c.args.guarantees.now (c.topology.ensures ∙ ap topology_kept c.self.view_is)
    (subst (λ (k : Kept). ShowsQueues (topology_kept k) (λ place. queue_at k.store place) (λ place. is_consumed k.connections place) (broker_of k)) c.self.view_is
    (standing c.ghost_indices_are_named.ensures kept c.ghost_is_whole.ensures c.self.invariant c.ghost_takers_are_found.ensures)) c.obstacle.ensures.reported

pub returns-clause-wants : goal.returns-clause-wants
returns-clause-wants c =
    let kept : Kept = record { store = c.self.inside.depot; connections = c.self.inside.connections } in
    may_allocate c.obstacle.result c.args.self.now c.topology.result.now c.args.topology.now c.args.guarantees.now (c.topology.ensures ∙ ap topology_kept c.self.view_is)
    (subst (λ (k : Kept). ShowsQueues (topology_kept k) (λ place. queue_at k.store place) (λ place. is_consumed k.connections place) (broker_of k)) c.self.view_is
    (standing c.ghost_indices_are_named.ensures kept c.ghost_is_whole.ensures c.self.invariant c.ghost_takers_are_found.ensures)) c.obstacle.ensures.wants
