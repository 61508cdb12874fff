use Rattle.depot.proofs.Names.{◌∙◌, ◌+◌, ◌≤◌, ◌++◌, ◌∷◌, [], ap, arith, Line, entries_of, TurnOutcome, is_refusal, outcome_at}
use Rattle.model.specs.declared.notes.Way.TheVariants as way
use Rattle.depot.proofs.Lending.{lent_entries, outcome_there, entered_there}
use Rattle.depot.proofs.Turning.{few_arrive}
use Rattle.depot.proofs.Rooms.{write_each}
use Rattle.depot.proofs.entering.enter_at.Goals as goal

pub enter-is_refused-requires-clause-room : goal.enter-is_refused-requires-clause-room
enter-is_refused-requires-clause-room c = let here = ap (λ (l : Line). l.room) c.queue_mut.ensures.value in let some = c.requires.room in omega arith

pub returns-clause-refused : goal.returns-clause-refused
returns-clause-refused c =
    let is = lent_entries c.args.queues.now c.args.turn.place c.queue_mut.result.now c.requires.within c.queue_mut.ensures.value in
    c.enter-is_refused.ensures.refused
    ∙ ap is_refusal (outcome_there way.Publish c.args.declared.now (entries_of c.args.queues.now) c.args.turn c.index-declared-place.result _ (omega (arith, c.requires.within, c.requires.len)) c.index-declared-place.is is)

pub returns-clause-entries : goal.returns-clause-entries
returns-clause-entries c =
    let is = lent_entries c.args.queues.now c.args.turn.place c.queue_mut.result.now c.requires.within c.queue_mut.ensures.value in
    ap entries_of c.count_coming.ensures
    ∙ entered_there way.Publish c.args.declared.now c.args.queues.now c.args.turn c.index-declared-place.result _ c.enter-is_refused.new.queue (omega (arith, c.requires.within, c.requires.len)) c.index-declared-place.is is c.enter-is_refused.ensures.entries

pub returns-clause-room : goal.returns-clause-room
returns-clause-room c =
    let few = few_arrive (outcome_at way.Publish c.index-declared-place.result c.queue_mut.result.now.entries c.args.turn).message in
    let spent = c.enter-is_refused.ensures.room in
    rw (c.count_coming.ensures) (write_each (λ some was now. was ≤ now + some) c.args.queues.now c.args.turn.place c.queue_mut.result.now c.enter-is_refused.new.queue
    c.requires.within c.queue_mut.ensures.value (omega (arith, few, spent)) (λ n. omega arith))

pub returns-clause-notes : goal.returns-clause-notes
returns-clause-notes c =
    let is = lent_entries c.args.queues.now c.args.turn.place c.queue_mut.result.now c.requires.within c.queue_mut.ensures.value in
    c.enter-is_refused.ensures.notes
    ∙ ap (λ (o : TurnOutcome). c.args.notes.now.items ++ o.note ∷ [])
    (outcome_there way.Publish c.args.declared.now (entries_of c.args.queues.now) c.args.turn c.index-declared-place.result _ (omega (arith, c.requires.within, c.requires.len)) c.index-declared-place.is is)
