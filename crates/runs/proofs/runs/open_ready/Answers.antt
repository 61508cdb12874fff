use Rattle.runs.proofs.Names.{◌≡◌, with_opened, OpensReady, AnswersAndRecords}
use Rattle.std.proofs.Common.{Some, None}
use Rattle.model.specs.declared.events.Arrival.TheVariants as arrival
use Rattle.runs.proofs.Onward.{on_ok, opens_ready, opens_ready_not}
use Rattle.runs.proofs.runs.open_ready.Goals as goal

pub returns-in-Some : goal.returns-in-Some
returns-in-Some g c =
    let world = g.M.Machine.world in
    let old = c.args.transcript.now in
    let opened : OpensReady (world c.args.machine.now) c.args.k (Some c.in-Some.field-0) (world c.open_ready.new.self) = rw c.in-Some.is at c.in_ok-open_ready.ensures.ok in
    on_ok c.add_connection.result (c.add_connection.new.self ≡ record old { connections = with_opened old.connections }) (AnswersAndRecords (world c.args.machine.now) (arrival.Ready c.args.k) old (world c.open_ready.new.self) c.add_connection.new.self)
    (opens_ready (world c.args.machine.now) (world c.open_ready.new.self) c.args.k c.in-Some.field-0 old c.add_connection.new.self opened) c.add_connection.ensures.ok

pub returns-in-None : goal.returns-in-None
returns-in-None g c =
    let world = g.M.Machine.world in
    let opened : OpensReady (world c.args.machine.now) c.args.k None (world c.open_ready.new.self) = rw c.in-None.is at c.in_ok-open_ready.ensures.ok in
    opens_ready_not (world c.args.machine.now) (world c.open_ready.new.self) c.args.k c.args.transcript.now opened
