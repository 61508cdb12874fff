use Rattle.queue.proofs.Names.{sym, subst, arith, List, Entry, IsCounted}
use Rattle.queue.proofs.Filled.{bounded}
use Rattle.queue.proofs.indexed.IndexedStore.reserve.Goals as goal

pub make_room-requires-clause-distinct : goal.make_room-requires-clause-distinct
make_room-requires-clause-distinct c = c.self.invariant.1.distinct

pub invariant_of-self : goal.invariant_of-self
invariant_of-self c = (
  c.make_room.ensures.kept,
  subst (λ (es : List Entry). IsCounted es c.self.inside.ready_count c.self.inside.live c.self.inside.ready_bytes) (sym c.make_room.ensures.entries) c.self.invariant.1,
  c.in_err-make_room.ensures.left,
  bounded c.self.inside.room c.self.inside.live c.make_room.new.self.blocks.items c.make_room.new.self.spares (c.make_room.ensures.filled c.self.invariant.3.filled) c.make_room.ensures.kept.whole c.in_err-make_room.ensures.left c.self.invariant.3.fits,
)

pub invariant_of-self-2 : goal.invariant_of-self-2
invariant_of-self-2 c = (
  c.make_room.ensures.kept,
  subst (λ (es : List Entry). IsCounted es c.self.inside.ready_count c.self.inside.live c.self.inside.ready_bytes) (sym c.make_room.ensures.entries) c.self.invariant.1,
  c.in_ok-make_room.ensures.made,
  bounded c.args.more c.self.inside.live c.make_room.new.self.blocks.items c.make_room.new.self.spares (c.make_room.ensures.filled c.self.invariant.3.filled) c.make_room.ensures.kept.whole c.in_ok-make_room.ensures.made (let f = c.self.invariant.3.fits in omega (arith, f)),
)
