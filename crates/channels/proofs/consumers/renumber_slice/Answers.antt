use Rattle.channels.proofs.Imports.{ℕ, List, set, get_or, ap, ◌∙◌, arith, slice_set, slice_index_or, counted_moved, CountedConsumer}
use Rattle.channels.proofs.Moving.{one_changed}
use Rattle.channels.proofs.consumers.renumber_slice.Goals as goal

pub loop-counted-preserved : goal.loop-counted-preserved
loop-counted-preserved c =
    let i = c.loop-counted.counted-index in
    let d : CountedConsumer = c.counted-item.result in
    let s : CountedConsumer = slice_index_or c.loop-counted.consumers i d in
    ap (λ (q : ℕ). slice_set c.loop-counted.consumers i (record s { consumer = record s.consumer { queue = q } })) c.place_now-counted.ensures
    ∙ ap (λ (ys : List CountedConsumer). set ys i (counted_moved c.args.places.now (get_or ys i d))) c.loop-counted.invariant
    ∙ one_changed (counted_moved c.args.places.now) c.args.consumers.now i d (let t = c.loop-counted-test.true in omega arith)
