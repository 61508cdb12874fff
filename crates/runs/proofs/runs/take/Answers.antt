use Rattle.runs.proofs.Names.{◌≡◌, List, ℕ, sym, ap, take, ◌∙◌, gathered, WorksAndRecords, AnswersAndRecords}
use Rattle.model.specs.declared.events.Arrival.TheVariants as arrival
use Rattle.runs.proofs.Onward.{on_ok, takes}
use Rattle.runs.proofs.runs.take.Goals as goal

pub returns : goal.returns
returns g c =
    let world = g.M.Machine.world in
    let old = c.args.transcript.now in
    let gathers : c.gather.new.self ≡ record old { connections = gathered old.connections c.args.c (take c.args.n ((world c.args.machine.now).wire c.args.c).output) } =
    c.in_ok-gather.ensures.ok ∙ ap (λ (z : List ℕ). record old { connections = gathered old.connections c.args.c z }) (c.front.ensures ∙ ap (take c.args.n) c.output.ensures) in
    on_ok c.work.result (WorksAndRecords (world c.sent.new.self) c.args.c c.gather.new.self (world c.work.new.machine) c.work.new.transcript)
    (AnswersAndRecords (world c.args.machine.now) (arrival.Sent c.args.c c.args.n) old (world c.work.new.machine) c.work.new.transcript)
    (takes (world c.args.machine.now) (world c.sent.new.self) (world c.work.new.machine) c.args.c c.args.n old c.gather.new.self c.work.new.transcript (sym c.is_gone.ensures ∙ c.if-is_gone.false) gathers c.sent.ensures) c.work.ensures
