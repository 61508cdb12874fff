use Rattle.queue.proofs.Names.{length, arith, inl, inr, leb_tells, is_held_as}
use Rattle.queue.proofs.Slotted.{contents-past}
use Rattle.queue.proofs.slots.search.Goals as goal

pub returns-clause-none : goal.returns-clause-none
returns-clause-none c k = elim (leb_tells (length c.args.slots.now) k) [
  | inl p ↦ contents-past (is_held_as c.args.holder.now) c.args.slots.now k p.1
  | inr p ↦ c.loop-place.invariant k (let h = p.1 in omega arith)
]
