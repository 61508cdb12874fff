use Rattle.queue.proofs.Names.{ap, sym, subst, arith, List, Entry, joined, IsCounted}
use Rattle.queue.proofs.Filled.{bounded}
use Rattle.queue.proofs.indexed.IndexedStore.give_back.Goals as goal

pub invariant_of-self : goal.invariant_of-self
invariant_of-self c = (
  c.keep_room.ensures.kept,
  subst (λ (es : List Entry). IsCounted es c.self.inside.ready_count c.self.inside.live c.self.inside.ready_bytes) (sym (ap (λ (ps : List (List Entry)). joined ps) c.keep_room.ensures.parts)) c.self.invariant.1,
  c.keep_room.ensures.room,
  bounded 0 c.self.inside.live c.keep_room.new.self.blocks.items c.keep_room.new.self.spares (c.keep_room.ensures.filled 1024 c.self.invariant.3.filled) c.keep_room.ensures.kept.whole c.keep_room.ensures.room (let f = c.self.invariant.3.fits in omega (arith, f)),
)
