use Rattle.exchange_graph.proofs.Names.{◌≡◌, ◌++◌, drop, ways_from}
use Rattle.exchange_graph.proofs.places.NamedLists.ways_from.Given as goal

abbrev pub invariant-loop-binding : goal.invariant-loop-binding
invariant-loop-binding l =
    l.ways.items ++ ways_from l.self.exchanges l.self.queues l.name (drop l.binding-index l.self.bindings) ≡ ways_from l.self.exchanges l.self.queues l.name l.self.bindings
