use Rattle.std.proofs.Common.{arith}
use Rattle.outputs.proofs.Putting.{sending_none, sending_fits, sending_more, sending_all, own_at}
use Rattle.outputs.proofs.sending.put_each.Goals as goal

pub loop-send-init : goal.loop-send-init
loop-send-init c = sending_none c.args.max c.args.sends.now c.args.output.now

pub put_send-requires-clause-own : goal.put_send-requires-clause-own
put_send-requires-clause-own c = own_at c.args.c c.loop-send.send-index c.args.sends.now c.send-item.result (omega arith) c.send-item.is c.requires.own

pub put_send-requires-clause-room : goal.put_send-requires-clause-room
put_send-requires-clause-room c = sending_fits c.args.max c.loop-send.send-index c.args.sends.now c.send-item.result c.args.output.now c.loop-send.output (omega arith) c.send-item.is c.requires.room c.loop-send.invariant

pub loop-send-preserved : goal.loop-send-preserved
loop-send-preserved c = sending_more c.args.max c.loop-send.send-index c.args.sends.now c.send-item.result c.args.output.now c.loop-send.output c.put_send.new.output (omega arith) c.send-item.is c.loop-send.invariant c.put_send.ensures

pub returns : goal.returns
returns c = sending_all c.args.max c.loop-send.send-index c.args.sends.now c.args.output.now c.loop-send.output (omega arith) c.loop-send.invariant
