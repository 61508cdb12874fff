use Rattle.paths.proofs.walking.step.Goals as goal

pub returns-in-Exchange : goal.returns-in-Exchange
returns-in-Exchange c = rw c.in-Exchange.is c.go_on.ensures

pub returns-in-Queue : goal.returns-in-Queue
returns-in-Queue c = rw c.in-Queue.is c.die.ensures
