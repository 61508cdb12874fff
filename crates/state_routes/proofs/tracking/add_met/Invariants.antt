use Rattle.state_routes.proofs.Names.{◌≡◌, drop, met_onto}
use Rattle.state_routes.proofs.tracking.add_met.Given as goal

abbrev pub invariant-loop-exchange : goal.invariant-loop-exchange
invariant-loop-exchange l = met_onto l.topology l.marks l.list (drop l.exchange-index l.exchanges) ≡ met_onto l.topology l.marks l.fn.list l.exchanges
