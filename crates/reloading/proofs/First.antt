-- The first of a list of which something is told, as it is found.
use Rattle.reloading.proofs.Names.{◌≡◌, ℕ, zero, suc, ◌+◌, ◌<◌, ◌≤◌, List, [], ◌∷◌, ◌++◌, length, get_or, Option, Some, None, ◌⊎◌, inl, inr, refl, sym, ap, subst, ◌∙◌, append_assoc, arith, slice_get, Text, Topology, IsIn, queue_names, DeclaredQueue, ReportsFirst, ReportsNoneBelow}
use Rattle.std.proofs.lemmas.Option.{slice_get_within}
use Rattle.std.proofs.lemmas.List.{length-map}

below_or : (i n : ℕ) → (i < n) ⊎ (n ≤ i)
below_or i zero = inr (omega arith)
below_or zero (suc n) = inl (omega arith)
below_or (suc i) (suc n) = elim (below_or i n) [ inl h ↦ inl (omega arith) | inr h ↦ inr (omega arith) ]

-- ---- places of a list

pub there_at : {A : Type 0} (xs : List A) (i : ℕ) (h : A) → i < length xs → h ≡ get_or xs i h → slice_get xs i ≡ Some h
there_at [] i h l e = absurd (omega (arith, l))
there_at {A} (x ∷ xs) zero h l e = ap (λ (z : A). Some z) (sym e)
there_at (x ∷ xs) (suc i) h l e = there_at xs i h (let k : suc i < suc (length xs) = l in omega (arith, k)) e

pub named_at : (qs : List DeclaredQueue) (i : ℕ) (q : DeclaredQueue) → i < length qs → q ≡ get_or qs i q → slice_get (queue_names qs) i ≡ Some q.name
named_at [] i q l e = absurd (omega (arith, l))
named_at (x ∷ xs) zero q l e = ap (λ (z : DeclaredQueue). Some z.name) (sym e)
named_at (x ∷ xs) (suc i) q l e = named_at xs i q (let k : suc i < suc (length xs) = l in omega (arith, k)) e

module _ {X Y : Type 0} (Reports : ℕ → X → Option Y → Type 0) (xs : List X) where
  pub one_more : (place : ℕ) (one : X) → slice_get xs place ≡ Some one → ReportsNoneBelow Reports xs place → Reports place one None → ReportsNoneBelow Reports xs (place + 1)
  one_more place one there below none i x lt at = elim (below_or i place) [
    | inl k ↦ below i x k at
    | inr k ↦
        let same : i ≡ place = omega arith in
        let is : Some one ≡ Some x = sym there ∙ subst (λ (n : ℕ). slice_get xs n ≡ Some x) same at in
        let here : one ≡ x = cc in
        subst (λ (n : ℕ). Reports n x None) (sym same) (subst (λ (z : X). Reports place z None) here none)
  ]

  pub none_of_all : (place : ℕ) → length xs ≤ place → ReportsNoneBelow Reports xs place → ReportsFirst Reports xs None
  none_of_all place le below i x at = below i x (let w = slice_get_within xs i x at in omega (arith, w, le)) at

  pub told_at : (place : ℕ) (one : X) (reported : Y) → slice_get xs place ≡ Some one → ReportsNoneBelow Reports xs place → Reports place one (Some reported) → ReportsFirst Reports xs (Some reported)
  told_at place one reported there below reports = record { place = place; one = one; there = there; reports = reports; none_before = below }

-- ---- a list that is passed from its front

-- This many were passed, of which nothing is reported, whatever their indices are.
pub record Passed {X : Type 0} (Reports : X → Type 0) (xs rest : List X) : Type 0 where
  pub passed : List X
  pub split : xs ≡ passed ++ rest
  pub none : (i : ℕ) (x : X) → slice_get passed i ≡ Some x → Reports x → ⊥

behind : {X : Type 0} (ps rest : List X) (i : ℕ) (x : X) → slice_get (ps ++ rest) i ≡ Some x → (slice_get ps i ≡ Some x) ⊎ ((j : ℕ) × (i ≡ length ps + j) × (slice_get rest j ≡ Some x))
behind [] rest i x e = inr (i, omega arith, e)
behind (p ∷ ps) rest zero x e = inl e
behind (p ∷ ps) rest (suc i) x e = elim (behind ps rest i x e) [ inl h ↦ inl h | inr h ↦ inr (h.0, (let g = h.1 in omega (arith, g)), h.2) ]

at_front : {X : Type 0} (ps rest : List X) (x : X) → slice_get (ps ++ x ∷ rest) (length ps) ≡ Some x
at_front [] rest x = refl
at_front (p ∷ ps) rest x = at_front ps rest x

module _ {X : Type 0} (Reports : X → Type 0) (xs : List X) where
  pub passed_none : Passed Reports xs xs
  passed_none = record { passed = []; split = refl; none = λ i x e t. (let h : None ≡ Some x = e in cc) }

  pub passed_more : (x : X) (now then' : List X) → now ≡ x ∷ then' → (Reports x → ⊥) → Passed Reports xs now → Passed Reports xs then'
  passed_more x now then' is not p = record {
    passed = p.passed ++ x ∷ [];
    split = p.split ∙ ap (λ (z : List X). p.passed ++ z) is ∙ sym (append_assoc p.passed (x ∷ []) then');
    none = λ i y e t. elim (behind p.passed (x ∷ []) i y e) [
      | inl h ↦ p.none i y h t
      | inr (zero, at, h) ↦ not (subst Reports (let f : Some x ≡ Some y = h in sym (cc)) t)
      | inr (suc j, at, h) ↦ (let f : None ≡ Some y = h in absurd (cc))
    ];
  }

  pub passed_all : (now : List X) → now ≡ [] → Passed Reports xs now → (i : ℕ) (x : X) → slice_get xs i ≡ Some x → Reports x → ⊥
  passed_all now is p i x e t =
      elim (behind p.passed now i x (subst (λ (z : List X). slice_get z i ≡ Some x) p.split e)) [
        | inl h ↦ p.none i x h t
        | inr h ↦ (let f : slice_get [] h.0 ≡ Some x = subst (λ (z : List X). slice_get z h.0 ≡ Some x) is h.2 in let g : None ≡ Some x = f in absurd (cc))
      ]

  -- what is in front of the rest is the first, if something is reported of it
  pub passed_front : (x : X) (now then' : List X) → now ≡ x ∷ then' → (p : Passed Reports xs now) → slice_get xs (length p.passed) ≡ Some x
  passed_front x now then' is p = subst (λ (z : List X). slice_get z (length p.passed) ≡ Some x) (sym (p.split ∙ ap (λ (z : List X). p.passed ++ z) is)) (at_front p.passed then' x)

  pub passed_before : (now : List X) (p : Passed Reports xs now) (i : ℕ) (y : X) → i < length p.passed → slice_get xs i ≡ Some y → Reports y → ⊥
  passed_before now p i y lt e t = elim (behind p.passed now i y (subst (λ (z : List X). slice_get z i ≡ Some y) p.split e)) [
    | inl h ↦ p.none i y h t
    | inr h ↦ absurd (let g = h.1 in omega (arith, g, lt))
  ]

-- what a name is told at is one of the list
pub in_get : {A : Type 0} (xs : List A) (i : ℕ) (d x : A) → i < length xs → get_or xs i d ≡ x → IsIn x xs
in_get [] i d x h e = absurd (omega (arith, h))
in_get (y ∷ xs) zero d x h e = inl (sym e)
in_get (y ∷ xs) (suc i) d x h e = inr (in_get xs i d x (let k : suc i < suc (length xs) = h in omega (arith, k)) e)

pub stranded_not : (t : Topology) (i : ℕ) (q : Text) → i < length t.queues → get_or (queue_names t.queues) i [] ≡ q → (IsIn q (queue_names t.queues) → ⊥) → ⊥
stranded_not t i q lt e gone = let n : length (queue_names t.queues) ≡ length t.queues = length-map t.queues (λ (z : DeclaredQueue). z.name) in gone (in_get (queue_names t.queues) i [] q (omega (arith, n, lt)) e)

-- as many names as queues
pub all_named : (qs : List DeclaredQueue) (n : ℕ) → length qs ≤ n → length (queue_names qs) ≤ n
all_named qs n le = let m : length (queue_names qs) ≡ length qs = length-map qs (λ (z : DeclaredQueue). z.name) in omega (arith, m, le)
