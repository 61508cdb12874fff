use Rattle.server.proofs.Passing.{no_part_passed, other_part, part_passed}
use Rattle.server.proofs.parts.has_bytes_left.Goals as goal
use Rattle.server.proofs.parts.has_bytes_left.Goals.{in-Ok+in-Some, in-Err+else-ne}

pub returns-in-None : goal.returns-in-None
returns-in-None g c = other_part _ _ _ _ _ _ c.parts.invariant c.in-Ok.ensures.bytes.0 c.in-None.ensures

pub parts-preserved : goal.parts-preserved
parts-preserved g c =
    elim c.match-read.branch [
      | in-Ok+in-Some w ↦ rw w.rest-is (part_passed _ _ _ _ _ _ _ c.parts.invariant w.in-Ok.ensures.bytes.0 w.in-Some.ensures)
      | in-Err+else-ne w ↦ rw w.rest-is (no_part_passed _ _ _ _ _ c.parts.invariant w.in-Err.ensures.bytes)
    ]
