use Rattle.topic_match.proofs.Names.{refl, ◌∙◌}
use Rattle.topic_match.proofs.Some.{all_there}
use Rattle.topic_match.proofs.plain.matches_one_by_one.Goals as goal

pub returns : goal.returns
returns c =
    all_there c.args.patterns.now c.args.patterns.now c.args.key.now c.as_slice.result.now c.in_ok-indices.indices.items
    refl (c.as_slice.ensures.value ∙ c.in_ok-words.ensures) c.in_ok-indices.ensures
