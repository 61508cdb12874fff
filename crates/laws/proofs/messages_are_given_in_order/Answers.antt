use Rattle.laws.proofs.Ordered.{given_in_order, after_those_ahead}
use Rattle.laws.proofs.Giving.{held_are_given}
use Rattle.laws.proofs.messages_are_given_in_order.Goals as goal

pub returns : goal.returns
returns c = record { in_order = given_in_order; ahead = after_those_ahead; held = held_are_given }
