use Rattle.queue.proofs.Names.{◌≤◌, arith, ap, vec_capacity, Stretch}
use Rattle.queue.proofs.block.Block.reserve.Goals as goal

pub returns-in_err-grow-in-Some-clause-slots : goal.returns-in_err-grow-in-Some-clause-slots
returns-in_err-grow-in-Some-clause-slots c old =
    let len = c.len-2.ensures in
    let capacity = c.capacity-2.ensures in
    let was = c.close_many_gaps.ensures.capacity in
    let seen = ap (λ (b : Stretch). b.slots) c.self.view_is in
    let within : vec_capacity c.close_many_gaps.new.slots ≤ 1024 = omega (arith, was, seen, old) in
    let few = c.in-Some.ensures.few (omega (arith, within, capacity)) in
    c.grow.ensures.few 1024 within (omega (arith, few, len))

pub returns-in_ok-grow-in-Some-clause-slots : goal.returns-in_ok-grow-in-Some-clause-slots
returns-in_ok-grow-in-Some-clause-slots c old =
    let len = c.len-2.ensures in
    let capacity = c.capacity-2.ensures in
    let was = c.close_many_gaps.ensures.capacity in
    let seen = ap (λ (b : Stretch). b.slots) c.self.view_is in
    let within : vec_capacity c.close_many_gaps.new.slots ≤ 1024 = omega (arith, was, seen, old) in
    let few = c.in-Some.ensures.few (omega (arith, within, capacity)) in
    c.grow.ensures.few 1024 within (omega (arith, few, len))
