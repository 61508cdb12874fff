-- Lines are moved as indices change.
use Rattle.broker.proofs.Names.{◌∙◌, ◌<◌, ◌+◌, ℕ, List, Bool, true, false, length, set, inl, inr, refl, sym, ap, subst, arith, ◌==◌, eqb-true, leb_tells, place_now, Pick, Queue, line_of, IndicesDiffer, IsOfEither}
use Rattle.std.proofs.Common.{◌≡◌}
use Rattle.broker.proofs.Marked.{set_here, set_there}

-- a line is put at a place, and all others are as they were
pub either_set : (lines : List (Queue Pick)) (place : ℕ) (l one : Queue Pick) → place < length lines → l.order ≡ one.order → (i : ℕ) → IsOfEither place i (line_of lines i) one (line_of (set lines place l) i)
either_set lines place l one lt same i = go (i == place) refl
  where
    go : (v : Bool) → (i == place) ≡ v → IsOfEither place i (line_of lines i) one (line_of (set lines place l) i)
    go true f = inr (eqb-true i place f, ap (λ (x : Queue Pick). x.order) (set_here lines place l lt i f) ∙ same)
    go false f = inl (ap (λ (x : Queue Pick). x.order) (set_there lines place l lt i f))

-- one more line is at its new index
pub one_moved : (places : List ℕ) (olds mid new : List (Queue Pick)) (from : ℕ) → from < length places → IndicesDiffer places (length mid)
    → ((i : ℕ) → i < from → place_now places i < length mid → (line_of mid (place_now places i)).order ≡ (line_of olds i).order)
    → (place_now places from < length mid → (line_of new (place_now places from)).order ≡ (line_of olds from).order)
    → ((i : ℕ) → (i ≡ place_now places from → ⊥) → line_of new i ≡ line_of mid i)
    → (i : ℕ) → i < from + 1 → place_now places i < length mid → (line_of new (place_now places i)).order ≡ (line_of olds i).order
one_moved places olds mid new from lt distinct before here others i le there = elim (leb_tells (i + 1) from) [
  | inl a ↦
      let less = a.1 in
      let far : place_now places i ≡ place_now places from → ⊥ = λ same. let one = distinct i from (omega (arith, less, lt)) lt there same in omega (arith, one, less) in
      ap (λ (x : Queue Pick). x.order) (others (place_now places i) far) ∙ before i (omega (arith, less)) there
  | inr a ↦
      let more = a.1 in
      let same : i ≡ from = omega (arith, le, more) in
      subst (λ (n : ℕ). (line_of new (place_now places n)).order ≡ (line_of olds n).order) (sym same) (here (subst (λ (n : ℕ). place_now places n < length mid) same there))
]
