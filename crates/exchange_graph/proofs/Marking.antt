-- Marks that are set one by one.
use Rattle.exchange_graph.proofs.Names.{◌≡◌, ℕ, zero, suc, ◌+◌, ◌<◌, List, [], ◌∷◌, ◌++◌, Bool, true, false, cond, refl, ap, ◌∙◌, length, set, get_or, inl, inr, arith, take_more, End, MarksEnds, IsSet, unset, in_append, in_left, in_right}
use Rattle.std.proofs.Common.{take}
use Rattle.std.specs.Prelude.{◌⊎◌}

pub marks_then : (es fs : List End) (a b c d x y : List Bool) → MarksEnds es a b c d → MarksEnds fs c d x y → MarksEnds (es ++ fs) a b x y
marks_then es fs a b c d x y m n = record {
  seen_length = n.seen_length ∙ m.seen_length;
  found_length = n.found_length ∙ m.found_length;
  kept = λ e h. n.kept e (m.kept e h);
  all = λ e h. (elim (in_append es fs e h) [ inl p ↦ n.kept e (m.all e p) | inr q ↦ n.all e q ]);
  only = λ e h. (elim (n.only e h) [
    | inl p ↦ (elim (m.only e p) [ inl q ↦ inl q | inr q ↦ inr (in_left es fs e q) ])
    | inr q ↦ inr (in_right es fs e q)
  ]);
}

-- one end more of those that stand in a list
pub marks_more : (ends : List End) (i : ℕ) (d : End) (a b c f x y : List Bool) → i < length ends
    → MarksEnds (take i ends) a b c f → MarksEnds (get_or ends i d ∷ []) c f x y → MarksEnds (take (i + 1) ends) a b x y
marks_more ends i d a b c f x y h m n = rw (take_more ends i d h) (marks_then (take i ends) (get_or ends i d ∷ []) a b c f x y m n)

-- ---- one mark

pub set_here : (marks : List Bool) (i : ℕ) → i < length marks → IsSet (set marks i true) i
set_here [] i h = absurd (omega (arith, h))
set_here (b ∷ bs) zero h = refl
set_here (b ∷ bs) (suc i) h = set_here bs i (omega (arith, h))

pub set_only : (marks : List Bool) (i j : ℕ) → IsSet (set marks i true) j → IsSet marks j ⊎ (j ≡ i)
set_only [] i j h = inl h
set_only (b ∷ bs) zero zero h = inr refl
set_only (b ∷ bs) zero (suc j) h = inl h
set_only (b ∷ bs) (suc i) zero h = inl h
set_only (b ∷ bs) (suc i) (suc j) h = elim (set_only bs i j h) [ inl p ↦ inl p | inr q ↦ inr (ap (λ (n : ℕ). suc n) q) ]

pub set_within : (marks : List Bool) (i : ℕ) → IsSet marks i → i < length marks
set_within [] i h = absurd (cc)
set_within (b ∷ bs) zero h = omega arith
set_within (b ∷ bs) (suc i) h = omega (arith, set_within bs i h)

unset_at : (b : Bool) (m n : ℕ) → m < n → cond b m (m + 1) < cond b n (n + 1)
unset_at true m n h = h
unset_at false m n h = omega (arith, h)

pub unset_fewer : (marks : List Bool) (i : ℕ) → i < length marks → get_or marks i false ≡ false → unset (set marks i true) < unset marks
unset_fewer [] i h e = absurd (omega (arith, h))
unset_fewer (true ∷ bs) zero h e = absurd (cc)
unset_fewer (false ∷ bs) zero h e = omega arith
unset_fewer (b ∷ bs) (suc i) h e = unset_at b (unset (set bs i true)) (unset bs) (unset_fewer bs i (omega (arith, h)) e)
