use Rattle.guarantee_search.proofs.Names.{ℕ, ◌+◌, ◌∷◌, List, length, subst, arith, below_more, decimal, IsIn}
use Rattle.guarantee_search.proofs.Wording.{numbered_word, all_named}
use Rattle.guarantee_search.proofs.spelling.other_word.Goals as goal

pub returns-then-not-has_word-clause-word : goal.returns-then-not-has_word-clause-word
returns-then-not-has_word-clause-word c = numbered_word c.loop-number.number c.in_ok-word.word (omega arith) c.in_ok-word.ensures

pub loop-number-preserved : goal.loop-number-preserved
loop-number-preserved c =
    below_more (λ (k : ℕ). IsIn (119 ∷ decimal k) c.args.names.now) c.loop-number.number c.loop-number.invariant
    (subst (λ (z : List ℕ). IsIn z c.args.names.now) c.in_ok-word.ensures (subst (λ (z : List ℕ). IsIn z c.args.names.now) c.as_bytes.ensures (c.has_word.ensures.0 c.if-not-has_word.false)))

pub unreachable-requires : goal.unreachable-requires
unreachable-requires c = let h = all_named (length c.args.names.now + 1) c.args.names.now (omega arith) (λ k l. c.loop-number.invariant k (omega arith)) in omega (arith, h)
