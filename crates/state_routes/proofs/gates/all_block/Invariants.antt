use Rattle.state_routes.proofs.Names.{◌≡◌, drop, all_block}
use Rattle.state_routes.proofs.gates.all_block.Given as goal

abbrev pub invariant-loop-gate : goal.invariant-loop-gate
invariant-loop-gate l = all_block l.mode (drop l.gate-index l.gates) l.from l.accepted ≡ all_block l.mode l.gates l.from l.accepted
