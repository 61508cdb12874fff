use Rattle.exchange_graph.proofs.Names.{◌≡◌, ◌++◌, drop, Text, ends_by_key, IsEven, ends_under}
use Rattle.exchange_graph.proofs.keyed.keyed.Given as goal

abbrev pub invariant-loop-way : goal.invariant-loop-way
invariant-loop-way l = record {
  even : IsEven l.keyed;
  reported : (key : Text) → ends_under key l.keyed ++ ends_by_key key (drop l.way-index l.ways) ≡ ends_by_key key l.ways;
}
