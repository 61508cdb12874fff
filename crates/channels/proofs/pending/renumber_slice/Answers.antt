use Rattle.channels.proofs.Imports.{ℕ, List, set, get_or, ap, ◌∙◌, arith, slice_set, slice_index_or, Get, outstanding_moved, Delivery}
use Rattle.channels.proofs.Moving.{one_changed}
use Rattle.channels.proofs.pending.renumber_slice.Goals as goal

pub loop-one-preserved : goal.loop-one-preserved
loop-one-preserved c =
    let i = c.loop-one.one-index in
    let d : Delivery = record { tag = 0; queue = 0; arrival = 0; by = Get } in
    ap (λ (q : ℕ). slice_set c.loop-one.items i (record (slice_index_or c.loop-one.items i d) { queue = q })) c.place_now-one.ensures
    ∙ ap (λ (ys : List Delivery). set ys i (outstanding_moved c.args.places.now (get_or ys i d))) c.loop-one.invariant
    ∙ one_changed (outstanding_moved c.args.places.now) c.args.items.now i d (let t = c.loop-one-test.true in omega arith)
