use Rattle.depot.proofs.Names.{[], subst, Returns, IsWellFormed, waiting, Store, entries_of, AreSettledBy, store_of}
use Rattle.depot.proofs.depots.Depot.requeue.Goals as goal

pub returns : goal.returns
returns c =
    let t = c.self.inside.router in
    let new : Store = store_of t (entries_of c.requeue_in.new.queues) c.self.inside.published in
    subst (λ (s : Store). AreSettledBy Returns s c.args.id.connection c.args.id.number (waiting c.args.gone.now) [] [] new) c.self.view_is
    (c.requeue_in.ensures.settled t (subst IsWellFormed c.topology.ensures c.ghost_is_well_formed.ensures) c.self.invariant c.self.inside.published)
