use Rattle.runs.proofs.Names.{◌≡◌, ◌++◌, Pumped, Idles, AnswersAndRecords}
use Rattle.model.specs.declared.events.Arrival.TheVariants as arrival
use Rattle.runs.proofs.Onward.{on_ok, pumps, pumps_not}
use Rattle.runs.proofs.runs.pump.Goals as goal

pub returns-in-Some : goal.returns-in-Some
returns-in-Some g c =
    let world = g.M.Machine.world in
    let old = c.args.transcript.now in
    let pumped : Pumped (world c.args.machine.now) c.in-Some.delivered.connection c.in-Some.delivered.notes.items (world c.pump.new.self) = rw c.in-Some.is at c.in_ok-delivered.ensures.ok in
    on_ok c.note.result (c.note.new.self ≡ record old { notes = old.notes ++ c.in-Some.delivered.notes.items }) (AnswersAndRecords (world c.args.machine.now) arrival.Pump old (world c.pump.new.self) c.note.new.self)
    (pumps (world c.args.machine.now) (world c.pump.new.self) old c.note.new.self c.in-Some.delivered.connection c.in-Some.delivered.notes.items pumped) c.note.ensures.ok

pub returns-in-None : goal.returns-in-None
returns-in-None g c =
    let world = g.M.Machine.world in
    let idle : Idles (world c.args.machine.now) (world c.pump.new.self) = rw c.in-None.is at c.in_ok-delivered.ensures.ok in
    pumps_not (world c.args.machine.now) (world c.pump.new.self) c.args.transcript.now idle
