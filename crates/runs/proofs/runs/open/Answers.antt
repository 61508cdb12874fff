use Rattle.runs.proofs.Names.{◌≡◌, with_opened, OpensNew, AnswersAndRecords}
use Rattle.std.proofs.Common.{Some, None}
use Rattle.model.specs.declared.events.Arrival.TheVariants as arrival
use Rattle.runs.proofs.Onward.{on_ok, opens_new, opens_new_not}
use Rattle.runs.proofs.runs.open.Goals as goal

pub returns-in-Some : goal.returns-in-Some
returns-in-Some g c =
    let world = g.M.Machine.world in
    let old = c.args.transcript.now in
    let opened : OpensNew (world c.args.machine.now) (Some c.in-Some.field-0) (world c.open.new.self) = rw c.in-Some.is at c.in_ok-open.ensures.ok in
    on_ok c.add_connection.result (c.add_connection.new.self ≡ record old { connections = with_opened old.connections }) (AnswersAndRecords (world c.args.machine.now) arrival.Open old (world c.open.new.self) c.add_connection.new.self)
    (opens_new (world c.args.machine.now) (world c.open.new.self) c.in-Some.field-0 old c.add_connection.new.self opened) c.add_connection.ensures.ok

pub returns-in-None : goal.returns-in-None
returns-in-None g c =
    let world = g.M.Machine.world in
    let opened : OpensNew (world c.args.machine.now) None (world c.open.new.self) = rw c.in-None.is at c.in_ok-open.ensures.ok in
    opens_new_not (world c.args.machine.now) (world c.open.new.self) c.args.transcript.now opened
