use Rattle.memory_wire.proofs.Names.{◌∷◌, [], length, subst, arith, Follows, read_call, logged_calls, Log}
use Rattle.memory_wire.proofs.Telling.{tells_one, not_read}
use Rattle.memory_wire.proofs.wires.MemoryWireWire.read.Goals as goal

pub returns-clause-traffic : goal.returns-clause-traffic
returns-clause-traffic c =
    let room = length c.args.buffer.now in
    let left = c.give-answer.new.buffer in
    let call = read_call c.args.socket room c.give-answer.result left in
    let give = c.give-answer.ensures in
    let come = give.come in
    tells_one (logged_calls c.args.self.now.log) (logged_calls c.add.new.self) c.args.self.now.come c.give-answer.new.self.come call
    (subst (λ (l : Log). Follows (logged_calls l) (call ∷ []) (logged_calls c.add.new.self)) give.log (c.add.ensures call c.logged_read-call.ensures)) (give.unfailing c.args.socket room left) (omega (arith, come))
    (λ s e. absurd (not_read s c.args.socket room c.give-answer.result left e))
