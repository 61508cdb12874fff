use Rattle.depot.proofs.Names.{◌≡◌, ◌∙◌, ◌++◌, true, refl, ap, sym, subst, arith, get_or, rules, length, List, Text, Topology, IsWellFormed, Leaves, left_note, is_waiting, waiting, AreWithin, Entry, Acked, Note, queue_name, given_at, Store, entries_of, IsStoreWhole, AreSettledBy, IsHeldOnce, store_of}
use Rattle.depot.proofs.Changes.{entries_of-length}
use Rattle.depot.proofs.Rejected.{apart_by}
use Rattle.depot.proofs.Settled.{one_left}
use Rattle.depot.proofs.Waiting.{nothing, of_next}
use Rattle.depot.proofs.depots.Depot.ack.Goals as goal

pub ack_all-requires-clause-distinct : goal.ack_all-requires-clause-distinct
ack_all-requires-clause-distinct c =
    subst (λ (t : Topology). IsHeldOnce (store_of t (entries_of c.self.inside.queues) 0)) (sym c.topology-topology.ensures)
    (subst (λ (s : Store). IsHeldOnce (store_of s.topology s.queues 0)) (sym c.self.view_is) c.requires.distinct)

pub leave-requires-clause-within : goal.leave-requires-clause-within
leave-requires-clause-within c =
    let waits : is_waiting (get_or c.args.gone.now 0 nothing) ≡ true = search rules in
    let one : length c.args.gone.now ≡ 1 = search rules in
    let within : AreWithin c.self.inside.router (waiting c.args.gone.now) = subst (λ (s : Store). AreWithin s.topology (waiting c.args.gone.now)) (sym c.self.view_is) c.requires.within in
    let lt = of_next _ (length c.self.inside.router.queues) c.args.gone.now 0 nothing within refl (omega (arith, one)) waits in
    let len = c.self.invariant in
    omega (arith, lt, len)

pub returns-clause-ok : goal.returns-clause-ok
returns-clause-ok c =
    let t = c.self.inside.router in
    let n = c.self.inside.published in
    let k = c.args.id.connection in
    let h = c.args.id.number in
    let d = get_or c.args.gone.now 0 nothing in
    let old : List (List Entry) = entries_of c.self.inside.queues in
    let before : List Note = c.args.notes.now.items in
    let now : Store = store_of t (entries_of c.leave.new.queues) n in
    let waits : is_waiting d ≡ true = search rules in
    let one : length c.args.gone.now ≡ 1 = search rules in
    let whole : IsStoreWhole (store_of t old n) = record { formed = subst IsWellFormed c.topology-topology.ensures c.ghost_is_well_formed.ensures; len = entries_of-length c.self.inside.queues ∙ c.self.invariant } in
    let within : AreWithin t (waiting c.args.gone.now) = subst (λ (s : Store). AreWithin s.topology (waiting c.args.gone.now)) (sym c.self.view_is) c.requires.within in
    let distinct : IsHeldOnce (store_of t old n) = subst IsHeldOnce (sym c.self.view_is) c.requires.distinct in
    let noted : c.leave.new.notes.items ≡ before ++ left_note Acked (queue_name t d.queue) (given_at k h old d) =
    c.leave.ensures.notes
    ∙ ap (λ (ns : List Note). ns ++ left_note Acked c.in_ok-queue.queue (given_at k h old d)) c.reserve_exact.ensures.items
    ∙ ap (λ (q : Text). before ++ left_note Acked q (given_at k h old d)) (c.in_ok-queue.ensures ∙ ap (λ (u : Topology). queue_name u d.queue) c.topology-topology.ensures) in
    subst (λ (s : Store). AreSettledBy (Leaves Acked) s k h (waiting c.args.gone.now) before c.leave.new.notes.items now) c.self.view_is
    (one_left t k h n c.args.gone.now old (entries_of c.leave.new.queues) before c.leave.new.notes.items whole.formed whole.len (apart_by (store_of t old n) whole distinct) within one waits c.leave.ensures.entries noted)
