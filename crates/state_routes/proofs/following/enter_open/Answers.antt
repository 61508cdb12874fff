use Rattle.state_routes.proofs.Names.{◌<◌, ℕ, arith, sym, subst, get_or, Gate, Always, in_get}
use Rattle.state_routes.proofs.Leaving.{itself}
use Rattle.state_routes.proofs.Spreading.{enters_none, gates_more, gates_all}
use Rattle.state_routes.proofs.following.enter_open.Goals as goal

abbrev none : Gate
none = record { link = record { from = 0; to = 0 }; test = Always }

pub enter_gate-requires : goal.enter_gate-requires
enter_gate-requires c =
    subst (λ (n : ℕ). (get_or c.args.gates.now c.loop-gate.gate-index none).link.to < n) (sym c.loop-gate.invariant.size)
    (c.requires (get_or c.args.gates.now c.loop-gate.gate-index none) (in_get c.args.gates.now c.loop-gate.gate-index none (omega arith)))

pub loop-gate-init : goal.loop-gate-init
loop-gate-init c = enters_none c.args.marks.now c.args.rest.now.items

pub loop-gate-preserved : goal.loop-gate-preserved
loop-gate-preserved c =
    gates_more c.args.mode c.args.accepted.now c.args.gates.now c.loop-gate.gate-index (get_or c.args.gates.now c.loop-gate.gate-index none) c.args.marks.now c.loop-gate.marks _ c.args.rest.now.items c.loop-gate.rest.items _ (omega arith)
    (itself c.args.gates.now c.loop-gate.gate-index none (omega arith)) c.loop-gate.invariant c.in_ok-enter_gate.ensures

pub returns : goal.returns
returns c = gates_all c.args.mode c.args.accepted.now c.args.gates.now c.loop-gate.gate-index c.args.marks.now c.loop-gate.marks c.args.rest.now.items c.loop-gate.rest.items (omega arith) c.loop-gate.invariant
