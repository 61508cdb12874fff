use Rattle.certificate.proofs.Names.{subst, IsDraft, Draft}
use Rattle.certificate.proofs.Drafting.{file_of}
use Rattle.certificate.proofs.drafts.Draft.finished.Goals as goal

pub returns-in_ok-closed-in-Text : goal.returns-in_ok-closed-in-Text
returns-in_ok-closed-in-Text c =
    λ cs d. file_of cs c.in-Text.text.items c.in_ok-closed-in-Text.field-0.items (subst (λ (z : Draft). IsDraft z cs) c.in-Text.is d) c.in_ok-closed-in-Text.ensures
