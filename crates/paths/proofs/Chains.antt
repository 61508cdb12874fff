-- What chains of links lead to, and marks.
use Rattle.paths.proofs.Names.{◌∙◌, ◌≡◌, ℕ, zero, suc, ◌+◌, ◌<◌, ◌≤◌, Bool, true, List, [], ◌∷◌, length, refl, sym, ap, subst, inl, inr, Some, None, arith, get_or, set, slice_index_or, slice_get, ◌&&◌, not, length-replicate, false≢true, IsIn, IsSet, Hop, LinksAreWithin, Chain, still, along, IsLinkPending, MarksBegin}
use Rattle.std.proofs.Common.{◌⊎◌, false}
use Rattle.std.specs.Prelude.{replicate}

pub chain_on : (links : List Hop) {a b : ℕ} → Chain links a b → (l : Hop) (c : ℕ) → IsIn l links → l.from ≡ b → l.to ≡ c → Chain links a c
chain_on links still l c i f t = along l i f t still
chain_on links (along m j g u rest) l c i f t = along m j g u (chain_on links rest l c i f t)

-- where no link leads out of the marks, they have all that chains lead to
pub all_marked : (links : List Hop) (marks : List Bool) → IsLinkPending links marks None → {a b : ℕ} → Chain links a b → IsSet marks a → IsSet marks b
all_marked links marks p still s = s
all_marked links marks p (along l i f t rest) s = all_marked links marks p rest (subst (λ (n : ℕ). IsSet marks n) t (p l i (subst (λ (n : ℕ). IsSet marks n) (sym f) s)))

set_same : (marks : List Bool) (i : ℕ) → i < length marks → slice_index_or (set marks i true) i false ≡ true
set_same [] i h = absurd (omega arith)
set_same (b ∷ bs) zero h = refl
set_same (b ∷ bs) (suc i) h = set_same bs i (let g : suc i < suc (length bs) = h in omega arith)

pub set_cases : (marks : List Bool) (i j : ℕ) → IsSet (set marks i true) j → (j ≡ i) ⊎ IsSet marks j
set_cases [] i j s = inr s
set_cases (b ∷ bs) zero zero s = inl refl
set_cases (b ∷ bs) zero (suc j) s = inr s
set_cases (b ∷ bs) (suc i) zero s = inr s
set_cases (b ∷ bs) (suc i) (suc j) s = elim (set_cases bs i j s) [ inl e ↦ inl (ap suc e) | inr h ↦ inr h ]

-- what was marked stays so
pub set_keeps : (marks : List Bool) (i j : ℕ) → IsSet marks j → IsSet (set marks i true) j
set_keeps [] i j s = s
set_keeps (b ∷ bs) zero zero s = refl
set_keeps (b ∷ bs) zero (suc j) s = s
set_keeps (b ∷ bs) (suc i) zero s = s
set_keeps (b ∷ bs) (suc i) (suc j) s = set_keeps bs i j s

-- one more mark
pub marked_more : (links : List Hop) (start place : ℕ) (marks : List Bool) → MarksBegin links start marks → IsLinkPending links marks (Some place) → MarksBegin links start (set marks place true)
marked_more links start place marks b p = record {
  begun = set_keeps marks place start b.begun;
  sound = λ j s. elim (set_cases marks place j s) [
    | inl e ↦ subst (λ (n : ℕ). Chain links start n) (sym e) (chain_on links (b.sound p.0.from p.3) p.0 place p.1 refl p.2)
    | inr h ↦ b.sound j h
  ];
}

pub none_set : (n i : ℕ) → IsSet (replicate n false) i → ⊥
none_set zero i s = false≢true s
none_set (suc n) zero s = false≢true s
none_set (suc n) (suc i) s = none_set n i s

-- the first mark
pub begun_at : (links : List Hop) (n start : ℕ) → start < n → MarksBegin links start (set (replicate n false) start true)
begun_at links n start h = record {
  begun = set_same (replicate n false) start (let e = length-replicate n false in omega arith);
  sound = λ j s. elim (set_cases (replicate n false) start j s) [
    | inl e ↦ subst (λ (k : ℕ). Chain links start k) (sym e) still
    | inr k ↦ absurd (none_set n j k)
  ];
}

length_set : (bs : List Bool) (i : ℕ) → length (set bs i true) ≡ length bs
length_set [] i = refl
length_set (b ∷ bs) zero = refl
length_set (b ∷ bs) (suc i) = ap suc (length_set bs i)

pub within_set : (links : List Hop) (n i : ℕ) → LinksAreWithin n links → LinksAreWithin (length (set (replicate n false) i true)) links
within_set links n i w = subst (λ (k : ℕ). LinksAreWithin k links) (sym (length_set (replicate n false) i ∙ length-replicate n false)) w

-- ---- links that were looked at

-- no link before this place leads out of the marks
abbrev pub NoneBefore : List Hop → List Bool → ℕ → Type 0
NoneBefore links marks n = (i : ℕ) (l : Hop) → i < n → slice_get links i ≡ Some l → IsSet marks l.from → IsSet marks l.to

at_place : (links : List Hop) (l : Hop) → IsIn l links → (i : ℕ) × (i < length links) × (slice_get links i ≡ Some l)
at_place [] l i = absurd i
at_place (m ∷ ms) l (inl e) = (zero, omega arith, ap (λ (z : Hop). Some z) (sym e))
at_place (m ∷ ms) l (inr i) = let r = at_place ms l i in (suc r.0, (let h = r.1 in omega arith), r.2)

pub in_place : (links : List Hop) (i : ℕ) (l : Hop) → i < length links → l ≡ get_or links i l → IsIn l links
in_place [] i l h e = absurd (omega arith)
in_place (m ∷ ms) zero l h e = inl e
in_place (m ∷ ms) (suc i) l h e = inr (in_place ms i l (let g : suc i < suc (length ms) = h in omega arith) e)

place_of_get : (links : List Hop) (i : ℕ) (l m : Hop) → slice_get links i ≡ Some m → l ≡ get_or links i l → l ≡ m
place_of_get [] i l m e f = let h : None ≡ Some m = e in cc
place_of_get (k ∷ ks) zero l m e f = let h : Some k ≡ Some m = e in cc
place_of_get (k ∷ ks) (suc i) l m e f = place_of_get ks i l m e f

pub none_more : (links : List Hop) (marks : List Bool) (n : ℕ) (l : Hop) → NoneBefore links marks n → l ≡ get_or links n l → (IsSet marks l.from → IsSet marks l.to) → NoneBefore links marks (n + 1)
none_more links marks n l b e f i m h g s = elim (below_or i n) [
  | inl k ↦ b i m k g s
  | inr k ↦ let same : i ≡ n = omega arith in
      let is : l ≡ m = place_of_get links n l m (subst (λ (z : ℕ). slice_get links z ≡ Some m) same g) e in
      subst (λ (z : Hop). IsSet marks z.to) is (f (subst (λ (z : Hop). IsSet marks z.from) (sym is) s))
]
  where
    below_or : (i n : ℕ) → (i < n) ⊎ (n ≤ i)
    below_or i zero = inr (omega arith)
    below_or zero (suc n) = inl (omega arith)
    below_or (suc i) (suc n) = elim (below_or i n) [ inl h ↦ inl (omega arith) | inr h ↦ inr (omega arith) ]

pub none_all : (links : List Hop) (marks : List Bool) (n : ℕ) → length links ≤ n → NoneBefore links marks n → IsLinkPending links marks None
none_all links marks n h b l i s = let r = at_place links l i in b r.0 l (let k = r.1 in omega arith) r.2 s

pub not_out : (from to : Bool) → (from && not to) ≡ false → from ≡ true → to ≡ true
not_out true true e f = refl
not_out true false e f = absurd (false≢true (sym e))
not_out false to e f = absurd (false≢true f)

pub out : (from to : Bool) → (from && not to) ≡ true → (from ≡ true) × (to ≡ false)
out true true e = absurd (false≢true e)
out true false e = (refl, refl)
out false to e = absurd (false≢true e)

pub at_itself : (links : List Hop) (i : ℕ) (d : Hop) → i < length links → get_or links i d ≡ get_or links i (get_or links i d)
at_itself [] i d h = absurd (omega (arith, h))
at_itself (l ∷ ls) zero d h = refl
at_itself (l ∷ ls) (suc i) d h = at_itself ls i d (let g : suc i < suc (length ls) = h in omega (arith, g))
