use Rattle.memory_wire.proofs.Names.{◌∷◌, [], subst, Follows, accept_call, logged_calls, Log}
use Rattle.memory_wire.proofs.Telling.{tells_one, accepted_lt}
use Rattle.memory_wire.proofs.wires.MemoryWireWire.accept.Goals as goal

pub returns-clause-traffic : goal.returns-clause-traffic
returns-clause-traffic c =
    let call = accept_call c.next-answer.result in
    let next = c.next-answer.ensures in
    tells_one (logged_calls c.args.self.now.log) (logged_calls c.add.new.self) c.args.self.now.come c.next-answer.new.self.come call
    (subst (λ (l : Log). Follows (logged_calls l) (call ∷ []) (logged_calls c.add.new.self)) next.log (c.add.ensures call c.logged_accept.ensures)) next.unfailing next.come
    (λ s e. accepted_lt s c.next-answer.new.self.come c.next-answer.result next.given e)
