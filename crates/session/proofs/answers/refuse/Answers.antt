use Rattle.session.proofs.Names.{ap, ◌∙◌, [], ◌∷◌, Ids, connection_close, to_phase, Send}
use Rattle.model.specs.declared.events.Phase.TheVariants as phase
use Rattle.session.proofs.answers.refuse.Goals as goal

pub returns-clause-is : goal.returns-clause-is
returns-clause-is c = λ n s. ap (λ (send : Send). record { sends = send ∷ []; next = to_phase s phase.Closing }) (c.close.ensures.is n ∙ ap (λ (i : Ids). connection_close n c.args.code i) c.ids.ensures)
