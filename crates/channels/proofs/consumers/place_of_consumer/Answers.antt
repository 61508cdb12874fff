use Rattle.channels.proofs.Imports.{◌∙◌, sym, is_numbered}
use Rattle.channels.proofs.Halving.{none_found}
use Rattle.channels.proofs.consumers.place_of_consumer.Goals as goal

pub returns-clause-none : goal.returns-clause-none
returns-clause-none c = λ none. none_found (is_numbered c.args.number) 0 c.args.consumers.now (sym c.search.ensures.is ∙ none)
