use Rattle.channels.proofs.Imports.{ap, take, ◌∙◌, waiting}
use Rattle.channels.proofs.Settlement.{taken_some, taken_none, rest_is}
use Rattle.channels.proofs.tags.settled_of.Goals as goal

pub returns-in-Some : goal.returns-in-Some
returns-in-Some c = ap waiting (rest_is c.in-Some.from (take c.in-Some.to c.args.given.now)) ∙ taken_some (waiting c.args.given.now) _ c.args.span.tag c.args.span.multiple c.in-Some.ensures.run

pub returns-in-None : goal.returns-in-None
returns-in-None c = taken_none (waiting c.args.given.now) c.args.span.tag c.args.span.multiple c.in-None.ensures.run
