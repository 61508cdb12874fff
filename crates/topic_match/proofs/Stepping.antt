-- The tokens that can take some words.
use Rattle.topic_match.proofs.Names.{◌≡◌, ℕ, ◌+◌, ◌<◌, List, [], ◌∷◌, ◌++◌, Bool, true, false, refl, sym, ◌∙◌, subst, length, take, get_or, inl, inr, Decides, false≢true, Text, IsIn, Token, Word, One, Any, AreSteps}
use Rattle.topic_match.proofs.Lists.{in_front, in_back, in_push, apart_two, in_at, take_push}

pub word_here : (steps : List Token) (n : ℕ) (s : Token) (w : Text) (told : Bool) → n < length steps → s ≡ get_or steps n s → Decides told (Word w ≡ s) → told ≡ true → IsIn (Word w) steps
word_here steps n s w told h e d f = subst (λ (z : Token). IsIn z steps) (sym (d.0 f)) (in_at steps n s h e)

pub word_not : (steps : List Token) (n : ℕ) (s : Token) (w : Text) (told : Bool) → n < length steps → s ≡ get_or steps n s → Decides told (Word w ≡ s) → told ≡ false
    → (IsIn (Word w) (take n steps) → ⊥) → IsIn (Word w) (take (n + 1) steps) → ⊥
word_not steps n s w told h e d f r i =
    elim (in_push (take n steps) s (Word w) (subst (λ (z : List Token). IsIn (Word w) z) (take_push steps n s h e) i)) [ inl p ↦ r p | inr q ↦ false≢true (sym f ∙ d.1 q) ]

pub word_both : (steps : List Token) (w : Text) → IsIn (Word w) steps → Decides true (IsIn (Word w) steps)
word_both steps w i = (λ e. i, λ j. refl)

pub steps_same : (steps : List Token) (words : List Text) (n : ℕ) (w : Text) (told : Bool) → n < length words → w ≡ get_or words n w → Decides told (IsIn (Word w) steps) → told ≡ true
    → AreSteps steps (take n words) → AreSteps steps (take (n + 1) words)
steps_same steps words n w told h e d f s = subst (λ (z : List Text). AreSteps steps z) (sym (take_push words n w h e)) (record {
  distinct = s.distinct;
  any = s.any;
  one = s.one;
  each = λ v i. elim (in_push (take n words) w v i) [ inl p ↦ s.each v p | inr q ↦ subst (λ (z : Text). IsIn (Word z) steps) (sym q) (d.0 f) ];
})

pub steps_more : (steps more : List Token) (words : List Text) (n : ℕ) (w v : Text) (told : Bool) → n < length words → w ≡ get_or words n w → Decides told (IsIn (Word w) steps) → told ≡ false → v ≡ w
    → more ≡ steps ++ Word v ∷ [] → AreSteps steps (take n words) → AreSteps more (take (n + 1) words)
steps_more steps more words n w v told h e d f g k s =
    let is : more ≡ steps ++ Word w ∷ [] = subst (λ (z : Text). more ≡ steps ++ Word z ∷ []) g k in
    subst (λ (z : List Token). AreSteps z (take (n + 1) words)) (sym is) (subst (λ (z : List Text). AreSteps (steps ++ Word w ∷ []) z) (sym (take_push words n w h e)) (record {
      distinct = apart_two steps (Word w ∷ []) s.distinct ((λ i. i), tt) (λ t i j. elim j [ inl p ↦ false≢true (sym f ∙ d.1 (subst (λ (z : Token). IsIn z steps) p i)) | inr p ↦ p ]);
      any = in_front steps (Word w ∷ []) Any s.any;
      one = in_front steps (Word w ∷ []) One s.one;
      each = λ u i. elim (in_push (take n words) w u i) [ inl p ↦ in_front steps (Word w ∷ []) (Word u) (s.each u p) | inr q ↦ in_back steps (Word w ∷ []) (Word u) (inl (subst (λ (z : Text). Word u ≡ Word z) q refl)) ];
    }))
