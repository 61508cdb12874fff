use Rattle.topic_match.proofs.Names.{◌≡◌, ◌+◌, ◌*◌, ◌≤◌, drop, trues_in}
use Rattle.topic_match.proofs.tries.trues_in.Given as goal

-- what is told of one node has 64 bits, and so has the number of nodes
abbrev pub invariant-loop-each : goal.invariant-loop-each
invariant-loop-each l = record {
  few : l.count ≤ l.each-index * 18446744073709551616;
  same : l.count + trues_in (drop l.each-index l.met) ≡ trues_in l.met;
}
