use Rattle.server.proofs.Names.{◌∙◌, refl, sym, doubtful, filed, unnamed, certificates_in}
use Rattle.server.proofs.filing.write_out.Goals as goal

pub returns-in-None : goal.returns-in-None
returns-in-None g c = λ vs e d. rw c.in-None.is (unnamed (λ name. refl))

pub returns-then-status-ne0 : goal.returns-then-status-ne0
returns-then-status-ne0 g c = λ vs e d. rw c.in-Some.is (doubtful (λ zero. c.if-status-ne0.true (e ∙ zero)) (λ name. refl))

pub returns-in-Ok : goal.returns-in-Ok
returns-in-Ok g c = λ vs e d. rw c.in-Some.is (filed (sym e ∙ c.if-status-ne0.false) (c.in-Ok.ensures (certificates_in vs) (rw (c.in-Some.is, c.in-Some-draft.is) at d)))
