use Rattle.channels.proofs.Imports.{sym, ◌∙◌, is_to}
use Rattle.channels.proofs.Marking.{counted_waiting}
use Rattle.channels.proofs.consumers.held_by.Goals as goal

pub returns-then-number-most : goal.returns-then-number-most
returns-then-number-most c = sym (c.requires c.args.number c.if-number-most.true)

pub returns : goal.returns
returns c = c.given_to.ensures ∙ counted_waiting (λ o. is_to c.args.number o.by) c.args.given.now
