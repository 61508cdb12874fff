use Rattle.topic_match.proofs.Names.{◌≡◌, ◌+◌, ◌≤◌, drop, trues}
use Rattle.topic_match.proofs.counts.trues.Given as goal

abbrev pub invariant-loop-told : goal.invariant-loop-told
invariant-loop-told l = record {
  few : l.count ≤ l.told-index;
  same : l.count + trues (drop l.told-index l.counts) ≡ trues l.counts;
}
