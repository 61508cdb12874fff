use Rattle.paths.proofs.leading.Leading.comes.Goals as goal

pub leads-requires-clause-explored : goal.leads-requires-clause-explored
leads-requires-clause-explored c = record { exchange = c.args.exchange.now; key = c.args.key.now; explored = c.in_ok-explored.ensures }

pub returns : goal.returns
returns c = c.leads.ensures c.args.exchange.now c.args.key.now c.in_ok-explored.ensures
