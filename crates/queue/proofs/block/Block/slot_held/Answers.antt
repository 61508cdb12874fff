use Rattle.queue.proofs.Names.{◌≡◌, ◌≤◌, sym, subst, List, find, is_some, is_held_as, Stretch, contents, somes, tally, Slot}
use Rattle.queue.proofs.Slotted.{held_told}
use Rattle.queue.proofs.block.Block.slot_held.Goals as goal

pub returns : goal.returns
returns c =
    let p = is_held_as c.args.holder.now in
    let distinct = subst (λ (ss : List Slot). tally p (somes (contents ss)) ≤ 1) (sym c.deref.ensures.value) (c.self.invariant.0.distinct c.args.holder.now) in
    subst (λ (l : Stretch). is_some c.index_held.result ≡ is_some (find p l.entries)) c.self.view_is
    (subst (λ (ss : List Slot). is_some c.index_held.result ≡ is_some (find p (somes (contents ss)))) c.deref.ensures.value
    (held_told p (contents c.deref.result.now) c.index_held.result c.index_held.ensures.some c.index_held.ensures.none distinct))
