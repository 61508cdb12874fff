use Rattle.std.proofs.Common.{length}
use Rattle.outputs.proofs.Putting.{Putting}
use Rattle.outputs.proofs.sending.put_body.Given as goal

abbrev pub invariant-pieces : goal.invariant-pieces
invariant-pieces l = Putting l.max l.channel l.fn.body l.fn.output l.rest l.output

abbrev pub decreases-pieces : goal.decreases-pieces
decreases-pieces l = length l.rest
