-- Names that are picked: of names that are apart, each once.
use Rattle.laws.proofs.Names.{◌≡◌, ◌≤◌, List, ◌∷◌, Bool, true, false, refl, sym, ap, subst, ◌∙◌, inl, inr, arith, count_by, bytes_eq, bytes_eq-Decides, Text, IsIn, AreDistinct, Picks, pass}
use Rattle.std.proofs.Common.{◌+◌}
use Rattle.model.specs.Routing.{none, take}
use Rattle.laws.proofs.Counts.{count-cons_no, count-cons_yes}

-- the queue r is q
abbrev pub same_as : Text → Text → Bool
same_as q r = bytes_eq r q

same_yes : (q r : Text) → q ≡ r → same_as q r ≡ true
same_yes q r e = (bytes_eq-Decides r q).1 (sym e)

same_no : (q r : Text) → (q ≡ r → ⊥) → same_as q r ≡ false
same_no q r ne = go (same_as q r) refl
  where
    go : (b : Bool) → same_as q r ≡ b → b ≡ false
    go true e = absurd (ne (sym ((bytes_eq-Decides r q).0 e)))
    go false e = refl

pub count_absent : {P : Text → Type 0} {xs ys : List Text} (q : Text) → Picks P xs ys → (IsIn q xs → ⊥) → count_by (same_as q) ys ≡ 0
count_absent q none out = refl
count_absent q (take {x = x} {ys = ys} p r) out = count-cons_no (same_as q) x ys (same_no q x (λ e. out (inl e))) ∙ count_absent q r (λ i. out (inr i))
count_absent q (pass np r) out = count_absent q r (λ i. out (inr i))

-- names are apart, and so a picked one is picked once
pub count_target : {P : Text → Type 0} {xs ys : List Text} (q : Text) → Picks P xs ys → AreDistinct xs → IsIn q xs → P q → count_by (same_as q) ys ≡ 1
count_target q none distinct i p = absurd i
count_target q (take {x = x} {xs = xs} {ys = ys} px r) distinct (inl e) p =
    count-cons_yes (same_as q) x ys (same_yes q x e) ∙ ap (λ n. 1 + n) (count_absent q r (λ i. distinct.0 (subst (λ (z : Text). IsIn z xs) e i)))
count_target q (take {x = x} {xs = xs} {ys = ys} px r) distinct (inr i) p =
    count-cons_no (same_as q) x ys (same_no q x (λ e. distinct.0 (subst (λ (z : Text). IsIn z xs) e i))) ∙ count_target q r distinct.1 i p
count_target {P} q (pass np r) distinct (inl e) p = absurd (np (subst P e p))
count_target q (pass np r) distinct (inr i) p = count_target q r distinct.1 i p

-- and whatever is picked, no name is picked twice
pub count_most : {P : Text → Type 0} {xs ys : List Text} (q : Text) → Picks P xs ys → AreDistinct xs → count_by (same_as q) ys ≤ 1
count_most q none distinct = omega arith
count_most q (take {x = x} {xs = xs} {ys = ys} px r) distinct = go (count_most q r distinct.1) (same_as q x) refl
  where
    go : count_by (same_as q) ys ≤ 1 → (b : Bool) → same_as q x ≡ b → count_by (same_as q) (x ∷ ys) ≤ 1
    go more true e =
        let is : x ≡ q = (bytes_eq-Decides x q).0 e in
        let first = count-cons_yes (same_as q) x ys e in
        let rest = count_absent q r (λ i. distinct.0 (subst (λ (z : Text). IsIn z xs) (sym is) i)) in
        omega (arith, first, rest)
    go more false e = let first = count-cons_no (same_as q) x ys e in omega (arith, first, more)
count_most q (pass np r) distinct = count_most q r distinct.1
