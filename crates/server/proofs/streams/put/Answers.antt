use Rattle.server.proofs.Outcomes.{piece_put, nothing_put}
use Rattle.server.proofs.streams.put.Goals as goal
use Rattle.server.proofs.streams.put.Goals.{in-Ok, in-Err+else-ne}

pub pieces-preserved : goal.pieces-preserved
pieces-preserved g c =
    elim c.match-write.branch [
      | in-Ok w ↦ rw (w.rest-is, w.split_at.ensures.back) (piece_put _ _ _ _ _ w.in-Ok.n c.pieces.invariant w.in-Ok.ensures.bytes)
      | in-Err+else-ne w ↦ rw w.rest-is (nothing_put _ _ _ _ _ c.pieces.invariant w.in-Err.ensures.bytes)
    ]
