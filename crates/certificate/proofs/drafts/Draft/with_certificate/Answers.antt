use Rattle.certificate.proofs.Names.{subst, IsDraft, Draft}
use Rattle.certificate.proofs.Drafting.{fails_still}
use Rattle.certificate.proofs.drafts.Draft.with_certificate.Goals as goal

pub returns-in-Refused : goal.returns-in-Refused
returns-in-Refused c = λ cs d. fails_still cs c.args.certificate.now c.in-Refused.why (subst (λ (z : Draft). IsDraft z cs) c.in-Refused.is d)
