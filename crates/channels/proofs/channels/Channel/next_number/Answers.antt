use Rattle.channels.proofs.Imports.{subst, Open, AreNumbered}
use Rattle.channels.proofs.Numbering.{are_below}
use Rattle.channels.proofs.channels.Channel.next_number.Goals as goal

pub returns-clause-above : goal.returns-clause-above
returns-clause-above c = are_below c.args.self.now c.self.inside.next_number (subst (λ (ch : Open). AreNumbered c.self.inside.next_number ch.given.consumers) c.self.view_is c.self.invariant.2)
