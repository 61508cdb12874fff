use Rattle.depot.proofs.Names.{◌∙◌, ◌+◌, ◌≡◌, List, arith, subst, Arrival, arriving_at, room_at, times}
use Rattle.std.proofs.lemmas.List.{take_all}
use Rattle.depot.proofs.Changes.{below_at}
use Rattle.depot.proofs.Rooms.{arrivals_fewer, arrivals_next}
use Rattle.depot.proofs.promising.reserve_all.Goals as goal

pub reserve_at-requires : goal.reserve_at-requires
reserve_at-requires c =
    below_at (λ (a : Arrival). a.place) _ _ c.args.arrivals.now c.loop-arrival.arrival-index c.arrival-item.result c.requires c.loop-arrival.invariant.len c.loop-arrival-test.true c.arrival-item.is

pub loop-arrival-preserved : goal.loop-arrival-preserved
loop-arrival-preserved c =
    let inv = c.loop-arrival.invariant in
    record {
      len = c.reserve_at.ensures.len ∙ inv.len;
      same = c.reserve_at.ensures.same ∙ inv.same;
      room = λ k.
          let had = inv.room k in
          let more = c.in_ok-reserve_at.ensures.room k in
          let next = arrivals_next k c.args.arrivals.now c.loop-arrival.arrival-index c.arrival-item.result c.loop-arrival-test.true c.arrival-item.is in
          omega (arith, had, more, next);
    }

pub returns-in_err-reserve_at-clause-few : goal.returns-in_err-reserve_at-clause-few
returns-in_err-reserve_at-clause-few c = λ k.
    let had = c.loop-arrival.invariant.room k in
    let more = c.reserve_at.ensures.few k in
    let next = arrivals_next k c.args.arrivals.now c.loop-arrival.arrival-index c.arrival-item.result c.loop-arrival-test.true c.arrival-item.is in
    let most = arrivals_fewer k c.args.arrivals.now (c.loop-arrival.arrival-index + 1) in
    omega (arith, had, more, next, most)

pub returns-clause-room : goal.returns-clause-room
returns-clause-room c = λ k.
    subst (λ (as' : List Arrival). room_at c.loop-arrival.queues k ≡ room_at c.args.queues.now k + times k (arriving_at as'))
    (take_all c.loop-arrival.arrival-index c.args.arrivals.now (omega (arith, c.loop-arrival-test.false, c.loop-arrival.auto.arrival-index-end))) (c.loop-arrival.invariant.room k)

pub returns-clause-few : goal.returns-clause-few
returns-clause-few c = λ k.
    let had = c.loop-arrival.invariant.room k in
    let most = arrivals_fewer k c.args.arrivals.now c.loop-arrival.arrival-index in
    omega (arith, had, most)
