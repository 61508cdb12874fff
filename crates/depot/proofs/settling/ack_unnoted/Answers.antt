use Rattle.depot.proofs.Names.{◌∙◌, List, refl, sym, ap, arith, subst, length, map, drop, drop_all, waiting, departure_in, Delivery, entries_of, IsStoreWhole, store_of}
use Rattle.depot.proofs.Changes.{entries_of-length}
use Rattle.depot.proofs.Rejected.{apart_by}
use Rattle.depot.proofs.Settled.{AreLeaving, leaving_begins, leaving_ends, leaving_waiting}
use Rattle.depot.proofs.Waiting.{nothing, of_next}
use Rattle.depot.proofs.settling.ack_unnoted.Goals as goal

pub loop-given-init : goal.loop-given-init
loop-given-init c =
    let t = c.args.topology.now in
    let queues = entries_of c.args.queues.now in
    let whole : IsStoreWhole (store_of t queues 0) = record { formed = c.requires.formed; len = entries_of-length c.args.queues.now ∙ c.requires.len } in
    record {
      len = refl;
      leaving = subst (AreLeaving t c.args.id.connection c.args.id.number queues queues (waiting c.args.gone.now) (map (departure_in t) (waiting c.args.gone.now)) c.args.notes.now.items) (sym c.reserve_exact.ensures.items)
          (leaving_begins t c.args.id.connection c.args.id.number queues (waiting c.args.gone.now) (map (departure_in t) (waiting c.args.gone.now)) c.args.notes.now.items refl c.requires.within whole.len (apart_by (store_of t queues 0) whole c.requires.distinct));
      room = (let room = c.in_ok-reserve_exact.ensures.ok in omega (arith, room));
      unkept = c.reserve_exact.ensures.kept ∙ c.requires.unkept;
    }

pub leave_waiting-requires-clause-within : goal.leave_waiting-requires-clause-within
leave_waiting-requires-clause-within c = of_next _ (length c.loop-given.queues) c.args.gone.now c.loop-given.given-index nothing c.requires.within (c.loop-given.invariant.len ∙ c.requires.len) (let t = c.loop-given-test.true in omega arith)

pub loop-given-preserved : goal.loop-given-preserved
loop-given-preserved c =
    let inv = c.loop-given.invariant in
    let lt = c.loop-given-test.true in
    let room = inv.room in
    let more = c.leave_waiting.ensures.notes_len in
    let same = c.leave_waiting.ensures.capacity in
    record {
      len = c.leave_waiting.ensures.len ∙ inv.len;
      leaving = leaving_waiting c.args.topology.now c.args.id.connection c.args.id.number (entries_of c.args.queues.now) (entries_of c.loop-given.queues) (entries_of c.leave_waiting.new.queues) c.args.gone.now c.loop-given.given-index nothing
          c.args.notes.now.items c.loop-given.notes.items c.leave_waiting.new.notes.items c.requires.formed (omega arith) inv.leaving
          c.leave_waiting.ensures.leaves c.leave_waiting.ensures.gone_already c.leave_waiting.ensures.noted c.leave_waiting.ensures.unnoted;
      room = omega (arith, room, more, same);
      unkept = c.leave_waiting.ensures.unkept;
    }

pub returns-clause-ok : goal.returns-clause-ok
returns-clause-ok c = λ n.
    let past = c.loop-given-test.false in
    let t = c.args.topology.now in
    leaving_ends t c.args.id.connection c.args.id.number n (entries_of c.args.queues.now) (entries_of c.loop-given.queues) (waiting c.args.gone.now)
    (map (departure_in t) (waiting (drop c.loop-given.given-index c.args.gone.now))) c.args.notes.now.items c.loop-given.notes.items c.loop-given.invariant.leaving
    (ap (λ (ds : List Delivery). length (map (departure_in t) (waiting ds))) (drop_all c.loop-given.given-index c.args.gone.now (omega arith)))
