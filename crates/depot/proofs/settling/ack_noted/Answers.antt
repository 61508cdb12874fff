use Rattle.depot.proofs.Names.{rules, refl, ap, sym, ◌∙◌, length, arith, subst, waiting, entries_of, IsStoreWhole, store_of}
use Rattle.depot.proofs.Changes.{entries_of-length}
use Rattle.depot.proofs.Rejected.{apart_by}
use Rattle.depot.proofs.Settled.{AreLeaving, leaving_begins, leaving_within, leaving_next, leaving_ends}
use Rattle.depot.proofs.settling.ack_noted.Goals as goal

pub loop-departure-init : goal.loop-departure-init
loop-departure-init c =
    let t = c.args.topology.now in
    let queues = entries_of c.args.queues.now in
    let rest = c.into_iter-departure-iterator.result.rest.items in
    let whole : IsStoreWhole (store_of t queues 0) = record { formed = c.requires.formed; len = entries_of-length c.args.queues.now ∙ c.requires.len } in
    let begins : AreLeaving t c.args.id.connection c.args.id.number queues queues (waiting c.args.gone.now) rest c.args.notes.now.items c.args.notes.now.items =
    leaving_begins t c.args.id.connection c.args.id.number queues (waiting c.args.gone.now) rest c.args.notes.now.items
    (c.into_iter-departure-iterator.ensures.into_iter_gives.0 ∙ c.in_ok-departures.ensures) c.requires.within whole.len (apart_by (store_of t queues 0) whole c.requires.distinct) in
    record {
      len = refl;
      leaving = subst (AreLeaving t c.args.id.connection c.args.id.number queues queues (waiting c.args.gone.now) rest c.args.notes.now.items) (sym c.reserve_exact.ensures.items) begins;
      counted = search rules;
      room = search rules;
    }

pub leave-requires-clause-within : goal.leave-requires-clause-within
leave-requires-clause-within c =
    let lt = leaving_within c.args.topology.now c.args.id.connection c.args.id.number (entries_of c.args.queues.now) (entries_of c.loop-departure.queues) (waiting c.args.gone.now)
    c.loop-departure.departure-iterator.rest.items c.next.new.self.rest.items c.in-Some.departure c.args.notes.now.items c.loop-departure.notes.items c.loop-departure.invariant.leaving c.in-Some.ensures.steps.0 in
    let len = entries_of-length c.loop-departure.queues in
    omega (arith, lt, len)

pub loop-departure-preserved : goal.loop-departure-preserved
loop-departure-preserved c =
    let inv = c.loop-departure.invariant in
    let len = c.leave.ensures.len in
    let long = ap length c.in-Some.ensures.steps.0 in
    let room = inv.room in
    let more = c.leave.ensures.notes_len in
    let same = c.leave.ensures.capacity in
    record {
      len = len ∙ inv.len;
      leaving = leaving_next c.args.topology.now c.args.id.connection c.args.id.number (entries_of c.args.queues.now) (entries_of c.loop-departure.queues) (entries_of c.leave.new.queues) (waiting c.args.gone.now)
          c.loop-departure.departure-iterator.rest.items c.next.new.self.rest.items c.in-Some.departure c.args.notes.now.items c.loop-departure.notes.items c.leave.new.notes.items c.requires.formed
          inv.leaving c.in-Some.ensures.steps.0 c.leave.ensures.entries c.leave.ensures.notes;
      counted = let was = inv.counted in let gone = c.in-Some.ensures.steps.1 in omega (arith, long, was, gone);
      room = omega (arith, long, room, more, same);
    }

pub returns-clause-ok : goal.returns-clause-ok
returns-clause-ok c = λ n.
    let none = c.loop-departure.invariant.counted ∙ c.in-None.ensures.steps.0 in
    leaving_ends c.args.topology.now c.args.id.connection c.args.id.number n (entries_of c.args.queues.now) (entries_of c.loop-departure.queues) (waiting c.args.gone.now)
    c.loop-departure.departure-iterator.rest.items c.args.notes.now.items c.loop-departure.notes.items c.loop-departure.invariant.leaving none
