use Rattle.exchange_graph.proofs.Names.{◌<◌, arith, length, Onward, in_get}
use Rattle.exchange_graph.proofs.Marking.{marks_more}
use Rattle.exchange_graph.proofs.marks.mark_all.Goals as goal

pub mark-requires : goal.mark-requires
mark-requires c =
    let inside : c.loop-end.end-index < length c.args.ends.now = omega arith in
    rw (c.loop-end.invariant.seen_length, c.loop-end.invariant.found_length) (c.requires _ (in_get c.args.ends.now c.loop-end.end-index (Onward 0) inside))

pub loop-end-preserved : goal.loop-end-preserved
loop-end-preserved c =
    marks_more c.args.ends.now c.loop-end.end-index (Onward 0) _ _ _ _ _ _ (omega arith) c.loop-end.invariant c.mark.ensures
