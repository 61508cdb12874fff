use Rattle.memory_wire.proofs.Names.{refl, Traffic, served, logged_calls, traffic_with}
use Rattle.memory_wire.proofs.Telling.{tells_bytes}
use Rattle.memory_wire.proofs.wires.serve_in_memory.Goals as goal

pub returns-clause-logs : goal.returns-clause-logs
returns-clause-logs g c = λ f fresh none empty whole.
    let before : Traffic = traffic_with (logged_calls c.args.wire.now.log) c.args.wire.now.come in
    let after : Traffic = traffic_with (logged_calls c.serve.new.wire.log) c.serve.new.wire.come in
    tells_bytes g.M.Machine.lacks f before after c.serve.new.wire.log (served (g.M.Machine.world c.serve.new.server.machine) c.serve.new.server.peers after) refl empty refl whole (c.serve.ensures.served f before (c.ghost_new_is_served.ensures f fresh none))
