use Rattle.runs.proofs.Names.{sym, ◌∙◌, WorksAndRecords, AnswersAndRecords}
use Rattle.model.specs.declared.events.Arrival.TheVariants as arrival
use Rattle.runs.proofs.Onward.{on_ok, hears}
use Rattle.runs.proofs.runs.hear.Goals as goal

pub returns : goal.returns
returns g c =
    let world = g.M.Machine.world in
    let old = c.args.transcript.now in
    on_ok c.work.result (WorksAndRecords (world c.feed.new.self) c.args.c old (world c.work.new.machine) c.work.new.transcript)
    (AnswersAndRecords (world c.args.machine.now) (arrival.In c.args.c c.args.bytes.now) old (world c.work.new.machine) c.work.new.transcript)
    (hears (world c.args.machine.now) (world c.feed.new.self) (world c.work.new.machine) c.args.c c.args.bytes.now old c.work.new.transcript (sym c.is_over.ensures ∙ c.if-is_over.false) c.in_ok-feed.ensures.ok) c.work.ensures
