use Rattle.exchange_graph.proofs.Names.{◌≡◌, ◌++◌, drop, map, fan_of}
use Rattle.exchange_graph.proofs.fans.all_fans.Given as goal

abbrev pub invariant-loop-exchange : goal.invariant-loop-exchange
invariant-loop-exchange l = l.made.items ++ map (fan_of l.lists) (drop l.exchange-index l.lists.exchanges) ≡ map (fan_of l.lists) l.lists.exchanges
