use Rattle.depot.proofs.Names.{◌∙◌, ◌++◌, ◌∷◌, [], ℕ, Bool, true, false, length, ap, sym, subst, arith, append-nil, Message, Content, Refused, Entered, entries_of, CountsTurn, Planned, so_far}
use Rattle.model.specs.declared.notes.Way.TheVariants as way
use Rattle.depot.proofs.Foreseen.{turn_foreseen}
use Rattle.depot.proofs.rejecting.plan_turn.Goals as goal

pub returns-then-branch-clause-ok : goal.returns-then-branch-clause-ok
returns-then-branch-clause-ok c =
    let qs = c.args.declared.now in
    let old = entries_of c.args.queues.now in
    let from = so_far c.args.plan.now c.args.notes.now in
    let name = c.in_ok-queue.queue in
    let to : Planned = record { tallies = c.count.new.tallies.entries; arrivals = from.arrivals; notes = c.push_reserved.new.self.items } in
    turn_foreseen qs old from to c.args.letter.now c.args.place c.len-size.result true name c.index-declared-place.result
    (subst (λ (f : Bool). CountsTurn qs old from.tallies to.tallies c.args.place c.len-size.result f) c.if-branch.true c.in_ok-count.ensures)
    (c.len-size.ensures ∙ ap (λ (x : Content). length x.body) c.content.ensures) (omega (arith, c.requires.within, c.requires.len)) c.index-declared-place.is c.in_ok-queue.ensures
    (sym (append-nil from.arrivals))
    (c.push_reserved.ensures.items ∙ ap (λ (n : ℕ). from.notes ++ Refused n name ∷ []) c.number-number.ensures)

pub returns-clause-ok : goal.returns-clause-ok
returns-clause-ok c =
    let qs = c.args.declared.now in
    let old = entries_of c.args.queues.now in
    let from = so_far c.args.plan.now c.args.notes.now in
    let name = c.in_ok-queue.queue in
    let to : Planned = record { tallies = c.count.new.tallies.entries; arrivals = c.push.new.self.items; notes = c.push_reserved-2.new.self.items } in
    turn_foreseen qs old from to c.args.letter.now c.args.place c.len-size.result false name c.index-declared-place.result
    (subst (λ (f : Bool). CountsTurn qs old from.tallies to.tallies c.args.place c.len-size.result f) c.if-branch.false c.in_ok-count.ensures)
    (c.len-size.ensures ∙ ap (λ (x : Content). length x.body) c.content.ensures) (omega (arith, c.requires.within, c.requires.len)) c.index-declared-place.is c.in_ok-queue.ensures
    (c.in_ok-push.ensures.items ∙ ap (λ (m : Message). from.arrivals ++ record { place = c.args.place; message = m } ∷ []) c.in_ok-message.ensures)
    (c.push_reserved-2.ensures.items ∙ ap (λ (n : ℕ). from.notes ++ Entered n name way.Dead ∷ []) c.number-number.ensures)
