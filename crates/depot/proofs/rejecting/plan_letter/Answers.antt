use Rattle.depot.proofs.Names.{◌≡◌, ◌∙◌, ℕ, List, Option, OnOk, ap, subst, Topology, DeclaredQueue, entries_of, Foresees, so_far}
use Rattle.depot.specs.Dying.{IsLetterAt}
use Rattle.depot.specs.declared.plans.Letter.{Letter}
use Rattle.exchange_graph.specs.declared.routes.Route.{Route}
use Rattle.depot.proofs.Foreseen.{letter_foreseen, with_notes}
use Rattle.depot.proofs.Rejected.{on_ok}
use Rattle.depot.proofs.rejecting.plan_letter.Goals as goal

pub returns-clause-ok : goal.returns-clause-ok
returns-clause-ok c =
    let t = c.args.router.now in
    let old = entries_of c.args.queues.now in
    let l = c.in-Some.letter in
    let from = so_far c.args.plan.now c.args.notes.now in
    let to = so_far c.plan_turns.new.plan c.plan_turns.new.notes in
    let noted = c.reserve.new.self.items in
    let declared : c.queues.result.now ≡ t.queues = c.queues.ensures ∙ ap (λ (u : Topology). u.queues) (c.topology.ensures ∙ c.letter_of.ensures.same) in
    let letters = subst (λ (o : Option Letter). IsLetterAt t c.args.place c.args.message.now o) c.in-Some.is c.in_ok-letter.ensures.letter in
    let targets : c.deref-2.result.now ≡ l.route.value.targets.items = c.deref-2.ensures ∙ ap (λ (r : Route). r.targets.items) c.deref.ensures in
    let asked = subst (λ (qs : List DeclaredQueue). OnOk c.plan_turns.result (Foresees qs old l.message c.deref-2.result.now (with_notes from noted) to)) declared c.plan_turns.ensures.ok in
    let turns = subst (λ (ks : List ℕ). OnOk c.plan_turns.result (Foresees t.queues old l.message ks (with_notes from noted) to)) targets asked in
    on_ok c.plan_turns.result _ _ (letter_foreseen t c.args.place c.args.message.now old l from to noted letters.0 c.in_ok-reserve.ensures.items) turns
