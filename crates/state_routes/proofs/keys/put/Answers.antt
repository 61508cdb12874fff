use Rattle.exchange_graph.proofs.Keying.{entered}
use Rattle.state_routes.proofs.keys.put.Goals as goal

pub returns-clause-ok : goal.returns-clause-ok
returns-clause-ok c = entered c.args.text.now c.args.names.now c.enter.new.self c.in_ok-enter.field-0 c.requires c.in_ok-enter.ensures.entered
