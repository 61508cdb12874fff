use Rattle.channels.proofs.Imports.{◌∙◌, ap, rules, filter_same, is_waiting, waiting}
use Rattle.channels.proofs.tags.close_up.Goals as goal

pub returns-clause-items : goal.returns-clause-items
returns-clause-items c = filter_same _ is_waiting _ (λ x b f' r. search rules) _ _ c.retain.ensures.filtered ∙ ap waiting c.drop_front.ensures.items
