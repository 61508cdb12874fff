use Rattle.channels.proofs.Imports.{not, rules, filter_same, has_name}
use Rattle.channels.proofs.consumers.remove_tagged.Goals as goal

pub returns-clause-consumers : goal.returns-clause-consumers
returns-clause-consumers c = filter_same _ (λ x. not (has_name c.args.tag.now x)) _ (λ x b f' r. search rules) _ _ c.retain.ensures.filtered
