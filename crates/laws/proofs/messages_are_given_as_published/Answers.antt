use Rattle.laws.proofs.Sources.{given_as_published}
use Rattle.laws.proofs.messages_are_given_as_published.Goals as goal

pub returns : goal.returns
returns c = given_as_published
