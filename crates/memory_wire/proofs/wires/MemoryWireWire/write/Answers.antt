use Rattle.memory_wire.proofs.Names.{arith, write_call, logged_calls}
use Rattle.memory_wire.proofs.Telling.{tells_one, not_write}
use Rattle.memory_wire.proofs.wires.MemoryWireWire.write.Goals as goal

pub returns-clause-traffic : goal.returns-clause-traffic
returns-clause-traffic c =
    let come = c.args.self.now.come in
    let call = write_call c.args.socket c.take-answer.result c.args.bytes.now in
    tells_one (logged_calls c.args.self.now.log) (logged_calls c.add.new.self) come come call (c.add.ensures call c.logged_write-call.ensures) (c.take-answer.ensures.unfailing c.args.socket c.args.bytes.now) (omega arith)
    (λ s e. absurd (not_write s c.args.socket c.take-answer.result c.args.bytes.now e))
