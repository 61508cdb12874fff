use Rattle.std.proofs.Common.{◌≡◌, ◌∙◌, map, refl, sym, true}
use Rattle.memory_wire.specs.Logs.{call_of}
use Rattle.callers.proofs.Serving.{log_served}
use Rattle.callers.proofs.served.serve_client.Goals as goal

pub returns : goal.returns
returns g c = λ f fresh.
    let log = c.serve_in_memory.new.wire.log in
    let whole : c.serve_in_memory.result ≡ true = c.if-not-serve_in_memory.false in
    let logs = c.serve_in_memory.ensures.logs f (rw c.in_ok-server.ensures fresh) (rw c.in_ok-server.ensures refl) c.new-wire.ensures whole in
    log_served g.M.Machine.lacks f log.is_whole (map call_of log.calls.items) (g.M.Machine.world c.serve_in_memory.new.server.machine) c.in_ok-taken_by.field-0.items (sym c.serve_in_memory.ensures.whole ∙ whole) logs c.in_ok-taken_by.ensures
