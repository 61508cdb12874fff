use Rattle.laws.proofs.Tags.{next_tags}
use Rattle.laws.proofs.next_tags_are_found.Goals as goal

pub returns : goal.returns
returns c = next_tags
