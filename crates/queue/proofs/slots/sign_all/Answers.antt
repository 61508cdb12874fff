use Rattle.queue.proofs.Names.{◌∙◌, arith, is_ready}
use Rattle.queue.proofs.Slotted.{contents-past, signed_more, signed_done}
use Rattle.queue.proofs.slots.sign_all.Goals as goal

pub loop-place-preserved : goal.loop-place-preserved
loop-place-preserved c = (signed_more _ _ _ _ _ _ _ (omega arith) c.loop-place.invariant.0 c.sign.ensures, c.sign.ensures.places ∙ c.loop-place.invariant.1)

pub returns-clause-signed : goal.returns-clause-signed
returns-clause-signed c = signed_done _ _ _ c.loop-place.signs _ _ _ (omega arith) c.requires.slots (contents-past is_ready c.args.slots.now) c.loop-place.invariant.0
