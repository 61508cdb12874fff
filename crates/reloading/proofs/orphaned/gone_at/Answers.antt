use Rattle.reloading.proofs.Names.{ap, refl, Text, InUse}
use Rattle.reloading.proofs.Allocating.{on_err}
use Rattle.reloading.proofs.orphaned.gone_at.Goals as goal

pub returns-then-is_used-clause-reported : goal.returns-then-is_used-clause-reported
returns-then-is_used-clause-reported g c = (c.is_used.ensures.0 c.if-is_used.true, ap (λ (z : Text). InUse z) c.in_ok-copied_name.ensures.same)

pub returns-in_err-copied_name-clause-used : goal.returns-in_err-copied_name-clause-used
returns-in_err-copied_name-clause-used g c = on_err c.from_residual.result _ (c.is_used.ensures.0 c.if-is_used.true, refl)
