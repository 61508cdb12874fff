use Rattle.depot.proofs.Names.{◌≡◌, ◌∙◌, ◌++◌, ◌+◌, ◌<◌, List, Some, ap, arith, sym, subst, Entry, Line, no_line, arriving}
use Rattle.depot.proofs.Changes.{changed_write}
use Rattle.depot.proofs.Rooms.{write_each}
use Rattle.depot.proofs.rejecting.arrive.Goals as goal

pub push-requires : goal.push-requires
push-requires c = subst (λ (l : Line). 0 < l.room) (sym c.queue_mut.ensures.value) c.requires.room

pub returns-clause-arrived : goal.returns-clause-arrived
returns-clause-arrived c =
    let comes = λ (es : List Entry). es ++ arriving (Some c.args.arrival.message) in
    changed_write comes c.args.queues.now c.args.arrival.place c.push.new.self no_line c.requires.within (c.push.ensures.entries ∙ ap (λ (l : Line). comes l.entries) c.queue_mut.ensures.value)

pub returns-clause-room : goal.returns-clause-room
returns-clause-room c =
    write_each (λ some was now. now + (some + 0) ≡ was) c.args.queues.now c.args.arrival.place c.queue_mut.result.now c.push.new.self c.requires.within c.queue_mut.ensures.value
    (let less = c.push.ensures.room in omega (arith, less)) (λ n. omega arith)
