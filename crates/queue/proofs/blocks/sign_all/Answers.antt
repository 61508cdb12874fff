use Rattle.queue.proofs.Names.{◌∙◌, List, ap, arith, is_ready, some_pass, Entry}
use Rattle.queue.proofs.Signed.{parts-past}
use Rattle.queue.proofs.Slotted.{signed_more, signed_done}
use Rattle.queue.proofs.blocks.sign_all.Goals as goal

pub loop-place-preserved : goal.loop-place-preserved
loop-place-preserved c = (signed_more _ _ _ _ _ _ _ (omega arith) c.loop-place.invariant.0 c.sign.ensures, c.sign.ensures.places ∙ c.loop-place.invariant.1)

pub returns-clause-signed : goal.returns-clause-signed
returns-clause-signed c = signed_done _ _ _ c.loop-place.signs _ _ _ (omega arith) c.requires.blocks (λ k h. ap (λ (es : List Entry). some_pass is_ready es) (parts-past c.args.blocks.now k h)) c.loop-place.invariant.0
