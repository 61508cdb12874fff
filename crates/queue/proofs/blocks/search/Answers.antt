use Rattle.queue.proofs.Names.{ap, length, arith, inl, inr, List, find, leb_tells, is_held_as, Entry}
use Rattle.queue.proofs.Signed.{parts-past}
use Rattle.queue.proofs.blocks.search.Goals as goal

pub returns-clause-none : goal.returns-clause-none
returns-clause-none c k = elim (leb_tells (length c.args.blocks.now) k) [
  | inl p ↦ ap (λ (es : List Entry). find (is_held_as c.args.holder.now) es) (parts-past c.args.blocks.now k p.1)
  | inr p ↦ c.loop-block.invariant k (let h = p.1 in omega arith)
]
