use Rattle.guarantees.proofs.Names.{◌≡◌, ◌∷◌, [], ◌++◌, List, length, sym, ap, subst, ◌∙◌, append_assoc, append-nil, arith, All, into_iter_items, Guarantee, ArePatterns}
use Rattle.guarantees.proofs.Keeping.{first_of, rest_of, nothing_left}
use Rattle.guarantees.proofs.reading.kept.Goals as goal

pub of-requires : goal.of-requires
of-requires c =
    let at = c.loop-one in
    first_of c.in-Some.one (into_iter_items c.next.new.self) (subst (λ (z : List Guarantee). All ArePatterns z) c.in-Some.ensures.steps.0 at.invariant.patterns)

pub loop-one-preserved : goal.loop-one-preserved
loop-one-preserved c =
    let at = c.loop-one in
    let x = c.in-Some.one in
    let steps : into_iter_items at.one-iterator ≡ x ∷ into_iter_items c.next.new.self = c.in-Some.ensures.steps.0 in
    record {
      reported = ap (λ (z : List Guarantee). z ++ into_iter_items c.next.new.self) (c.in_ok-push.ensures.items ∙ ap (λ (z : Guarantee). at.found.items ++ z ∷ []) c.of.ensures)
          ∙ append_assoc at.found.items (x ∷ []) (into_iter_items c.next.new.self)
          ∙ rw (← steps) at.invariant.reported;
      counted = (let was = at.invariant.counted in let gone = c.in-Some.ensures.steps.1 in let short = ap length steps in omega arith);
      patterns = rest_of x (into_iter_items c.next.new.self) (subst (λ (z : List Guarantee). All ArePatterns z) steps at.invariant.patterns);
    }

pub returns : goal.returns
returns c =
    let at = c.loop-one in
    let none = c.in-None.ensures.steps in
    let empty : into_iter_items at.one-iterator ≡ [] = nothing_left _ (sym at.invariant.counted ∙ none.0) in
    sym (append-nil at.found.items) ∙ rw empty at at.invariant.reported ∙ c.into_iter-one-iterator.ensures.into_iter_gives.0
