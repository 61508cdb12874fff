use Rattle.state_routes.proofs.Names.{◌≡◌, ◌++◌, drop, alternate_links}
use Rattle.state_routes.proofs.nodes.alternate_links.Given as goal

abbrev pub invariant-loop-exchange : goal.invariant-loop-exchange
invariant-loop-exchange l = l.links.items ++ alternate_links l.topology.exchanges (drop l.exchange-index l.exchanges) ≡ alternate_links l.topology.exchanges l.exchanges
