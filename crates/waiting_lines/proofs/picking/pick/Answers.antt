use Rattle.std.proofs.Common.{◌∙◌, true, refl, subst}
use Rattle.waiting_lines.proofs.Resting.{rest_none, rests_on, wakes_less}
use Rattle.waiting_lines.proofs.picking.pick.Goals as goal

pub members-init : goal.members-init
members-init g c = record { rest = rest_none (g.C.Takers.cannot c.args.takers.now) c.args.line.now.order; capacity = refl }

pub returns-then-may_take-clause-picks : goal.returns-then-may_take-clause-picks
returns-then-may_take-clause-picks g c =
    let first = c.in-Some.ensures.some in
    let its = c.item_at-item.ensures (record { item = first.item; awake = true }) first.front first.back first.here in
    record {
      middle = c.members.line.order;
      rest = c.members.invariant.rest;
      turn = c.in-Some.i;
      first = first;
      its = its;
      able = c.may_take.ensures.yes c.if-may_take.true;
      last = c.turn.ensures.order;
    }

pub members-smaller : goal.members-smaller
members-smaller g c = wakes_less c.members.line.order c.rest_at.new.self.order c.in-Some.i c.in-Some.ensures.some c.rest_at.ensures.order

pub members-preserved : goal.members-preserved
members-preserved g c =
    let first = c.in-Some.ensures.some in
    let its = c.item_at-item.ensures (record { item = first.item; awake = true }) first.front first.back first.here in
    record {
      rest = rests_on c.members.line.order c.rest_at.new.self.order c.in-Some.i first c.rest_at.ensures.order (g.C.Takers.cannot c.args.takers.now) c.args.line.now.order
          (subst (g.C.Takers.cannot c.args.takers.now) its (c.may_take.ensures.no c.if-may_take.false)) c.members.invariant.rest;
      capacity = c.rest_at.ensures.capacity ∙ c.members.invariant.capacity;
    }
