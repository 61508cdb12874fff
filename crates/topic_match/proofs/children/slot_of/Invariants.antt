use Rattle.topic_match.proofs.Names.{◌-◌, ◌<◌, ℕ, List, length, Found, IsChild, IsFoundBy, KeepNodes}
use Rattle.topic_match.proofs.children.slot_of.Given as goal

abbrev pub invariant-tree : goal.invariant-tree
invariant-tree l = record {
  within : l.slot < length l.slots;
  all : (c : ℕ) → IsChild l.patterns l.nodes l.at l.token c → Found l.heads l.slots l.slot l.bits c;
  put : (new : List ℕ) (c : ℕ) → KeepNodes l.slots new → Found l.heads new l.slot l.bits c → IsFoundBy l.heads new l.at l.token c;
}

abbrev pub decreases-tree : goal.decreases-tree
decreases-tree l = length l.slots - l.slot
