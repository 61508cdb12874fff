use Rattle.engine.proofs.Names.{arith}
use Rattle.broker.specs.Turns.{topology_kept, broker_of}
use Rattle.engine.proofs.Waiting.{later_then}
use Rattle.engine.proofs.Replies.{delivery_sends}
use Rattle.engine.proofs.pumping.pump_connection.Goals as goal

pub put_out-requires-clause-own : goal.put_out-requires-clause-own
put_out-requires-clause-own c =
    rw c.deref.ensures.value (delivery_sends (topology_kept c.args.broker.now) (broker_of c.args.broker.now) (broker_of c.pump.new.broker) c.args.pick.connection c.in-Ok.step.sends.items c.in-Ok.step.notes.items
    c.requires.carried c.in-Ok.ensures.ok.delivery (c.in-Ok.ensures.addressed c.requires.carried c.requires.named))

pub put_out-requires-clause-room : goal.put_out-requires-clause-room
put_out-requires-clause-room c =
    let max = c.frame_max-max.ensures in
    let own = delivery_sends (topology_kept c.args.broker.now) (broker_of c.args.broker.now) (broker_of c.pump.new.broker) c.args.pick.connection c.in-Ok.step.sends.items c.in-Ok.step.notes.items
    c.requires.carried c.in-Ok.ensures.ok.delivery (c.in-Ok.ensures.addressed c.requires.carried c.requires.named) in
    let size = own.size c.frame_max-max.result max.least in
    rw c.deref.ensures.value (omega (arith, size, c.in_ok-make_room.ensures.ok))

pub returns-in-Ok-clause-ok : goal.returns-in-Ok-clause-ok
returns-in-Ok-clause-ok c =
    let max = c.frame_max-max.ensures in
    let sends = c.deref.ensures.value in
    record {
      sends = c.in-Ok.step.sends.items;
      mid = broker_of c.pump.new.broker;
      delivers = c.in-Ok.ensures.ok;
      own = rw (← sends) c.put_out.ensures.own;
      bounded = rw (← max.value) max.most;
      spelled = rw (← max.value, ← sends) c.put_out.ensures.spelled;
      put = rw (← max.value, ← sends, ← c.make_room.ensures.bytes) c.put_out.ensures.bytes;
      pauses = rw (← c.pump.ensures.topology) c.put_out.ensures.pauses;
    }

pub returns-in-Ok-clause-later : goal.returns-in-Ok-clause-later
returns-in-Ok-clause-later c = later_then c.args.broker.now c.pump.new.broker c.put_out.new.broker c.in-Ok.ensures.later c.put_out.ensures.later
