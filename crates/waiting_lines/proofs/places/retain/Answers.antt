use Rattle.std.proofs.Common.{rules}
use Rattle.std.proofs.lemmas.Fn.{filter_same}
use Rattle.waiting_lines.proofs.places.retain.Goals as goal

pub returns-clause-items : goal.returns-clause-items
returns-clause-items g c = filter_same _ (g.K.Tests.passes c.args.keeper.now) _ (λ x b f' r. search rules) _ _ c.retain.ensures.filtered
