use Rattle.outputs.proofs.Putting.{Sending}
use Rattle.outputs.proofs.sending.put_each.Given as goal

abbrev pub invariant-loop-send : goal.invariant-loop-send
invariant-loop-send l = Sending l.max l.sends l.send-index l.fn.output l.output
