use Rattle.state_routes.proofs.Names.{◌<◌, ℕ, arith, sym, subst, refl, get_or, Gate, Always, in_get}
use Rattle.state_routes.proofs.Leaving.{gates_done, gates_more, itself}
use Rattle.state_routes.proofs.exits.put_gates.Goals as goal

abbrev none : Gate
none = record { link = record { from = 0; to = 0 }; test = Always }

pub put_gate-requires : goal.put_gate-requires
put_gate-requires c =
    subst (λ (n : ℕ). (get_or c.args.gates.now c.loop-gate.gate-index none).link.from < n) (sym c.loop-gate.invariant.size)
    (c.requires (get_or c.args.gates.now c.loop-gate.gate-index none) (in_get c.args.gates.now c.loop-gate.gate-index none (omega arith)))

pub loop-gate-init : goal.loop-gate-init
loop-gate-init c = record { size = refl; gates = λ p. refl; alternates = λ p. refl }

pub loop-gate-preserved : goal.loop-gate-preserved
loop-gate-preserved c =
    gates_more c.args.gates.now c.loop-gate.gate-index (get_or c.args.gates.now c.loop-gate.gate-index none) c.args.exits.now.items c.loop-gate.exits.items _ (omega arith)
    (itself c.args.gates.now c.loop-gate.gate-index none (omega arith))
    (subst (λ (n : ℕ). (get_or c.args.gates.now c.loop-gate.gate-index none).link.from < n) (sym c.loop-gate.invariant.size)
    (c.requires (get_or c.args.gates.now c.loop-gate.gate-index none) (in_get c.args.gates.now c.loop-gate.gate-index none (omega arith))))
    c.in_ok-put_gate.ensures c.loop-gate.invariant

pub returns : goal.returns
returns c = gates_done c.args.gates.now c.loop-gate.gate-index c.args.exits.now.items c.loop-gate.exits.items (omega arith) c.loop-gate.invariant
