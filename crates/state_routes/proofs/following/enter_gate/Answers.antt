use Rattle.state_routes.proofs.Names.{◌∙◌, sym}
use Rattle.state_routes.proofs.Spreading.{gate_open, gate_shut}
use Rattle.state_routes.proofs.following.enter_gate.Goals as goal

pub returns-then-not-passes : goal.returns-then-not-passes
returns-then-not-passes c = gate_shut c.args.mode c.args.accepted.now c.args.gate c.args.marks.now c.args.rest.now.items (sym c.passes.ensures ∙ c.if-not-passes.true)

pub returns : goal.returns
returns c = gate_open c.args.mode c.args.accepted.now c.args.gate c.args.marks.now _ c.args.rest.now.items _ (sym c.passes.ensures ∙ c.if-not-passes.false) c.in_ok-enter.ensures
