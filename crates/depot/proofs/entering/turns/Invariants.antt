use Rattle.depot.proofs.Names.{◌≡◌, ◌≤◌, length, map, take, vec_len, vec_capacity, turn_at}
use Rattle.depot.proofs.entering.turns.Given as goal

-- the targets before the index have their turns
abbrev pub invariant-loop-target : goal.invariant-loop-target
invariant-loop-target l = record {
  turned : l.turns.items ≡ map (turn_at l.declared l.message) (take l.target-index l.targets);
  len : vec_len l.turns ≡ l.target-index;
  capacity : length l.targets ≤ vec_capacity l.turns;
}
