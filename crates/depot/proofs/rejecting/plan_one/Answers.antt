use Rattle.depot.proofs.Names.{◌≡◌, ◌∙◌, ◌++◌, ◌∷◌, [], ℕ, List, true, ap, sym, rules, Some, get_or, Topology, is_held_as, Holder, Note, Rejected, Left, queue_name, is_waiting, entries_of, holder_of_delivery, given_at, so_far}
use Rattle.std.proofs.Common.{find}
use Rattle.depot.proofs.Foreseen.{given_foreseen}
use Rattle.depot.proofs.Planned.{name_there}
use Rattle.depot.proofs.Rejected.{on_ok}
use Rattle.depot.proofs.rejecting.plan_one.Goals as goal

pub returns-clause-foreseen : goal.returns-clause-foreseen
returns-clause-foreseen c =
    let g = c.args.given.now in
    let t = c.args.router.now in
    let old = entries_of c.args.queues.now in
    let e = c.in-Some.entry.now in
    let waits : is_waiting g ≡ true = search rules in
    let name = c.in_ok-queue.queue in
    let notes = c.args.notes.now.items in
    let line = c.queue.result.now in
    let there : get_or old g.queue [] ≡ line.entries = sym c.queue.ensures in
    let found : given_at c.args.id.connection c.args.id.number old g ≡ Some e =
    ap (find (is_held_as (holder_of_delivery c.args.id.connection c.args.id.number g))) there ∙ ap (λ (a : Holder). find (is_held_as a) line.entries) (sym c.holder-holder.ensures) ∙ sym c.in-Some.ensures in
    let there_too : c.queue-2.result.now ≡ get_or t.queues g.queue c.queue-2.result.now = c.queue-2.ensures ∙ ap (λ (u : Topology). get_or u.queues g.queue c.queue-2.result.now) c.topology.ensures in
    let named : name ≡ queue_name t g.queue = c.in_ok-queue.ensures ∙ name_there t.queues g.queue c.queue-2.result.now (c.requires.within waits) there_too in
    let first : c.push_reserved.new.self.items ≡ notes ++ Left e.message.number name Rejected ∷ [] =
    c.push_reserved.ensures.items ∙ ap (λ (ns : List Note). ns ++ Left c.number.result name Rejected ∷ []) c.in_ok-reserve.ensures.items ∙ ap (λ (n : ℕ). notes ++ Left n name Rejected ∷ []) c.number.ensures in
    let from = so_far c.args.plan.now c.args.notes.now in
    let to = so_far c.plan_letter.new.plan c.plan_letter.new.notes in
    on_ok c.plan_letter.result _ _ (λ letters w. given_foreseen t c.args.id g e name old from to c.push_reserved.new.self.items found named first letters) c.plan_letter.ensures.ok
