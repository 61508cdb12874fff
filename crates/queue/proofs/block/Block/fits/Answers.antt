use Rattle.queue.proofs.Names.{◌≡◌, ◌≤◌, ap, arith, rules, length, vec_len, vec_capacity, leb-true, Stretch}
use Rattle.queue.proofs.Slotted.{live_most, contents-length}
use Rattle.queue.proofs.block.Block.fits.Goals as goal

pub overflow_sub-result : goal.overflow_sub-result
overflow_sub-result c =
    let a = live_most _ _ _ c.self.invariant.0 in
    let n = contents-length c.self.inside.slots.items in
    let l : vec_len c.self.inside.slots ≡ length c.self.inside.slots.items = search rules in
    let k : vec_len c.self.inside.slots ≤ vec_capacity c.self.inside.slots = search rules in
    let capacity = c.capacity.ensures in
    omega (arith, a, n, l, k, capacity)

pub returns-clause-in_one : goal.returns-clause-in_one
returns-clause-in_one c reported =
    let a = live_most _ _ _ c.self.invariant.0 in
    let n = contents-length c.self.inside.slots.items in
    let l : vec_len c.self.inside.slots ≡ length c.self.inside.slots.items = search rules in
    let k : vec_len c.self.inside.slots ≤ vec_capacity c.self.inside.slots = search rules in
    let live = c.self.invariant.0.live_count in
    let other = c.live.ensures in
    let seen = ap (λ (b : Stretch). length b.entries) c.self.view_is in
    let slots = ap (λ (b : Stretch). b.slots) c.self.view_is in
    let capacity = c.capacity.ensures in
    let le = leb-true _ _ reported in
    omega (arith, a, n, l, k, live, other, seen, slots, capacity, le)
