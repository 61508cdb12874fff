use Rattle.commands.proofs.Names.{◌≡◌, ◌∷◌, ◌∙◌, sym, ap, [], reply, Send, BasicRecoverOk}
use Rattle.commands.proofs.commands.settlements.recover.Goals as goal

pub returns-clause-commands : goal.returns-clause-commands
returns-clause-commands c = λ content old new turns. (
  sym c.in_ok-check_implemented.ensures,
  let sent : c.in_ok-step.step.sends.items ≡ reply c.args.id.connection c.args.id.number BasicRecoverOk ∷ [] = c.in_ok-step.ensures.sends ∙ ap (λ (s : Send). s ∷ []) c.recover_ok.ensures.send in
      let noted = c.in_ok-step.ensures.notes in
      rw (sent, noted) (c.in_ok-requeue.ensures.settles (reply c.args.id.connection c.args.id.number BasicRecoverOk ∷ []) old new turns),
)
