use Rattle.depot.proofs.Names.{◌∙◌, Arrival}
use Rattle.depot.proofs.Changes.{below_at}
use Rattle.depot.proofs.Rooms.{arrivals_next, emptied_more, emptied_one, gains_more}
use Rattle.depot.proofs.promising.give_back_all.Goals as goal

pub give_back_at-requires : goal.give_back_at-requires
give_back_at-requires c =
    below_at (λ (a : Arrival). a.place) _ _ c.args.arrivals.now c.loop-arrival.arrival-index c.arrival-item.result c.requires c.loop-arrival.invariant.len c.loop-arrival-test.true c.arrival-item.is

pub loop-arrival-preserved : goal.loop-arrival-preserved
loop-arrival-preserved c =
    let inv = c.loop-arrival.invariant in
    record {
      len = c.give_back_at.ensures.len ∙ inv.len;
      same = c.give_back_at.ensures.same ∙ inv.same;
      gains = gains_more c.args.queues.now c.loop-arrival.queues c.give_back_at.new.queues inv.gains c.give_back_at.ensures.gains;
      emptied =
          emptied_more c.loop-arrival.queues c.give_back_at.new.queues _ _ _ (λ k. arrivals_next k c.args.arrivals.now c.loop-arrival.arrival-index c.arrival-item.result c.loop-arrival-test.true c.arrival-item.is)
          inv.emptied c.give_back_at.ensures.gains (emptied_one c.give_back_at.new.queues c.arrival-item.result.place c.give_back_at.ensures.emptied);
    }
