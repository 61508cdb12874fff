use Rattle.server.proofs.Names.{shut}
use Rattle.server.specs.Clients.{unreported}
use Rattle.server.proofs.Outcomes.{untouched}
use Rattle.server.proofs.clients.open_sockets.Goals as goal

pub returns-in_default : goal.returns-in_default
returns-in_default g c = shut c.in_default.ensures (untouched _) c.refuse.ensures

pub returns-in-Ok : goal.returns-in-Ok
returns-in-Ok g c = record { address = c.in-Some.field-0.address.bytes.items; opened = c.in-Some.ensures; is_reported = rw c.as_str.ensures.value at c.in-Ok.ensures }

pub returns-in-Err : goal.returns-in-Err
returns-in-Err g c =
    unreported (record { past = g.L.Sockets.Wire.past c.in-Some.field-0.sockets; address = c.in-Some.field-0.address.bytes.items }) c.in-Some.ensures (rw c.as_str.ensures.value at c.in-Err.ensures)
