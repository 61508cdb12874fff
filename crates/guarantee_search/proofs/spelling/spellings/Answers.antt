use Rattle.guarantee_search.proofs.Names.{◌≡◌, ◌++◌, ◌∷◌, [], List, sym, subst, ap, ◌∙◌, AllByRecursion, Text, IsIn, IsWord, IsFilled}
use Rattle.guarantee_search.proofs.Wording.{named_filled, spelled}
use Rattle.guarantee_search.proofs.spelling.spellings.Goals as goal

pub are_words-requires : goal.are_words-requires
are_words-requires c = subst (λ (z : List Text). AllByRecursion IsFilled z) (sym c.names.ensures) (named_filled c.args.letters.now c.requires)

pub returns : goal.returns
returns c =
    let made : c.push.new.self.items ≡ c.in_ok-words.words.items ++ c.in_ok-other_word.field-0 ∷ [] = c.in_ok-push.ensures.items in
    spelled c.args.letters.now c.push.new.self.items c.in_ok-other_word.field-0
    (made ∙ ap (λ (z : List Text). z ++ c.in_ok-other_word.field-0 ∷ []) (c.in_ok-words.ensures ∙ c.names-2.ensures))
    (subst (λ (z : List Text). AllByRecursion IsWord z) c.names.ensures c.are_words.ensures) c.in_ok-other_word.ensures.word
    (subst (λ (z : List Text). IsIn c.in_ok-other_word.field-0 z → ⊥) c.names-3.ensures c.in_ok-other_word.ensures.other)
