use Rattle.server.proofs.Listed.{any_named}
use Rattle.server.proofs.routes.has_name.Goals as goal

pub returns : goal.returns
returns c = rw c.any_exchange.ensures (any_named c.args.name.now c.args.exchanges.now)
