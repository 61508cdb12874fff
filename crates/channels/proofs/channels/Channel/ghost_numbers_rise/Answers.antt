use Rattle.channels.proofs.Imports.{subst, NumbersRise, Open}
use Rattle.channels.proofs.channels.Channel.ghost_numbers_rise.Goals as goal

pub returns : goal.returns
returns c = subst (λ (ch : Open). NumbersRise ch.given.consumers) c.self.view_is (c.self.inside.next_number, c.self.invariant.2)
