use Rattle.runs.proofs.Names.{◌≡◌, List, ℕ, sym, ap, ◌∙◌, gathered}
use Rattle.runs.proofs.Onward.{loses}
use Rattle.runs.proofs.runs.lose.Goals as goal

pub returns : goal.returns
returns g c =
    let world = g.M.Machine.world in
    let old = c.args.transcript.now in
    let gathers : c.gather.new.self ≡ record old { connections = gathered old.connections c.args.c ((world c.args.machine.now).wire c.args.c).output } =
    c.in_ok-gather.ensures.ok ∙ ap (λ (z : List ℕ). record old { connections = gathered old.connections c.args.c z }) c.output.ensures in
    loses (world c.args.machine.now) (world c.lose.new.self) c.args.c old c.gather.new.self (sym c.is_gone.ensures ∙ c.if-is_gone.false) gathers c.lose.ensures
