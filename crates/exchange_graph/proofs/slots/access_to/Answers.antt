use Rattle.exchange_graph.proofs.Names.{◌∙◌, sym}
use Rattle.exchange_graph.proofs.Routing.{access_named}
use Rattle.exchange_graph.proofs.slots.access_to.Goals as goal

pub returns-else-is_empty : goal.returns-else-is_empty
returns-else-is_empty c =
    rw (c.access_at.ensures, c.exchange.ensures) (access_named c.args.topology.now c.args.exchange.now (sym c.is_empty.ensures ∙ c.if-is_empty.false))
