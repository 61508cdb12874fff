use Rattle.depot.proofs.Names.{◌≡◌, sym, subst, refl, length, arith, OnOk, IsWellFormed, Store, IsStoreWhole, entries_of, AreSettledBy, IsHeldOnce, waiting, AreWithin, Rejects}
use Rattle.model.specs.Deliveries as given
use Rattle.depot.proofs.Changes.{entries_of-length}
use Rattle.depot.proofs.Rejected.{rejecting, on_ok}
use Rattle.depot.proofs.depots.Depot.reject.Goals as goal

pub returns-clause-ok : goal.returns-clause-ok
returns-clause-ok c =
    let was : Store = record { topology = c.self.inside.router; queues = entries_of c.self.inside.queues; published = c.self.inside.published } in
    let now : Store = record { topology = c.reject_in.new.router; queues = entries_of c.reject_in.new.queues; published = c.self.inside.published } in
    let long : length c.self.inside.queues ≡ length c.self.inside.router.queues = c.self.invariant in
    let all = entries_of-length c.self.inside.queues in
    let whole : IsStoreWhole was = record { formed = subst IsWellFormed c.topology.ensures c.ghost_is_well_formed.ensures; len = omega (arith, long, all) } in
    let within : AreWithin was.topology (waiting c.args.gone.now) = subst (λ (s : Store). AreWithin s.topology (waiting c.args.gone.now)) (sym c.self.view_is) c.requires.within in
    let distinct : IsHeldOnce was = subst IsHeldOnce (sym c.self.view_is) c.requires.distinct in
    subst (λ (s : Store). OnOk c.reject_in.result (AreSettledBy given.Rejects s c.args.id.connection c.args.id.number (waiting c.args.gone.now) c.args.notes.now.items c.reject_in.new.notes.items now)) c.self.view_is
    (on_ok c.reject_in.result (Rejects was.topology c.args.id (waiting c.args.gone.now) was.queues now.queues c.args.notes.now.items c.reject_in.new.notes.items) _
    (rejecting was now c.args.id (waiting c.args.gone.now) c.args.notes.now.items c.reject_in.new.notes.items whole distinct c.requires.ordered within refl c.reject_in.ensures.same) c.reject_in.ensures.ok)
