use Rattle.server.proofs.Names.{◌≡◌, ◌+◌, ◌++◌, drop, outcome_lines}
use Rattle.server.proofs.verifying.put_outcomes.Given as goal

abbrev pub invariant-loop-outcome : goal.invariant-loop-outcome
invariant-loop-outcome l = record {
  number : l.number ≡ l.outcome-index + 1;
  text : l.text.items ++ outcome_lines l.number (drop l.outcome-index l.outcomes) ≡ l.fn.text.items ++ outcome_lines 1 l.outcomes;
}
