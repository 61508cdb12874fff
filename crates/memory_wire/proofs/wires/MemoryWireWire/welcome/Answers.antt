use Rattle.memory_wire.proofs.Names.{refl, arith, Welcomed, logged_calls}
use Rattle.memory_wire.proofs.Telling.{tells_one}
use Rattle.memory_wire.proofs.wires.MemoryWireWire.welcome.Goals as goal

pub returns : goal.returns
returns c =
    let come = c.args.self.now.come in
    tells_one (logged_calls c.args.self.now.log) (logged_calls c.add.new.self) come come (Welcomed c.args.socket) (c.add.ensures (Welcomed c.args.socket) refl) refl (omega arith) (λ s e. absurd (cc e))
