use Rattle.topic_match.proofs.Names.{List, subst, ◌∙◌, IfOk, Token, AreMatches}
use Rattle.topic_match.proofs.tries.TrieMatcher.matches.Goals as goal

pub returns : goal.returns
returns c =
    subst (λ (patterns : List (List Token)). IfOk c.matches_one_by_one.result (λ indices. AreMatches patterns c.args.key.now indices.items))
    (c.as_slice-patterns.ensures.value ∙ c.self.view_is) c.matches_one_by_one.ensures
