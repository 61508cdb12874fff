-- Connections by place and by number.
use Rattle.runs.proofs.Names.{◌≡◌, ◌≢◌, ℕ, zero, suc, ◌+◌, ◌-◌, ◌<◌, ◌≤◌, List, [], ◌∷◌, ◌++◌, Bool, true, false, cond, eqb, length, take, drop, slice_set, refl, sym, ap, ◌∙◌, arith, eq-eqb, ne_eqb, get_or, ◌==◌, with_one, Shown, taken_at, gathered_at, gathered, with_opened}
use Rattle.std.proofs.Math.Seq.{drop-nil, take-nil}

-- ---- one value changed

pub with_here : {A : Type 0} (f : ℕ → A) (n m : ℕ) (a : A) → m ≡ n → with_one f n a m ≡ a
with_here f n m a e = ap (λ (b : Bool). cond b a (f m)) (eq-eqb m n e)

pub with_other : {A : Type 0} (f : ℕ → A) (n m : ℕ) (a : A) → m ≢ n → with_one f n a m ≡ f m
with_other f n m a ne = ap (λ (b : Bool). cond b a (f m)) (ne_eqb m n ne)

-- ---- bytes appended to what is at an index

gathered_place : (ss : List Shown) (i : ℕ) (bytes : List ℕ) → gathered ss (i + 1) bytes ≡ gathered_at ss i bytes
gathered_place ss i bytes =
    let k : i + 1 - 1 ≡ i = omega arith in
    ap (λ (b : Bool). cond b ss (gathered_at ss (i + 1 - 1) bytes)) (ne_eqb (i + 1) 0 (λ e. omega arith)) ∙ ap (λ (j : ℕ). gathered_at ss j bytes) k

pub gathered_none : (ss : List Shown) (c : ℕ) (bytes : List ℕ) → c ≡ 0 → gathered ss c bytes ≡ ss
gathered_none ss c bytes e = ap (λ (b : Bool). cond b ss (gathered_at ss (c - 1) bytes)) (eq-eqb c 0 e)

pub gathered_some : (ss : List Shown) (c : ℕ) (bytes : List ℕ) → c ≢ 0 → gathered ss c bytes ≡ gathered_at ss (c - 1) bytes
gathered_some ss c bytes ne = ap (λ (b : Bool). cond b ss (gathered_at ss (c - 1) bytes)) (ne_eqb c 0 ne)

length-gathered_at : (ss : List Shown) (i : ℕ) (bytes : List ℕ) → length (gathered_at ss i bytes) ≡ length ss
length-gathered_at [] i bytes = refl
length-gathered_at (s ∷ ss) zero bytes = refl
length-gathered_at (s ∷ ss) (suc i) bytes = ap (λ (n : ℕ). suc n) (length-gathered_at ss i bytes)

pub length-gathered : (ss : List Shown) (c : ℕ) (bytes : List ℕ) → length (gathered ss c bytes) ≡ length ss
length-gathered ss c bytes = go (c == 0)
  where
    go : (b : Bool) → length (cond b ss (gathered_at ss (c - 1) bytes)) ≡ length ss
    go true = refl
    go false = length-gathered_at ss (c - 1) bytes

at_here : (ss : List Shown) (i : ℕ) (bytes : List ℕ) → (length ss ≤ i → bytes ≡ []) → taken_at (gathered_at ss i bytes) i ≡ taken_at ss i ++ bytes
at_here [] i bytes none = sym (none (omega arith))
at_here (s ∷ ss) zero bytes none = refl
at_here (s ∷ ss) (suc i) bytes none = at_here ss i bytes (λ le. none (omega arith))

at_other : (ss : List Shown) (i j : ℕ) (bytes : List ℕ) → i ≢ j → taken_at (gathered_at ss j bytes) i ≡ taken_at ss i
at_other [] i j bytes ne = refl
at_other (s ∷ ss) zero zero bytes ne = absurd (ne refl)
at_other (s ∷ ss) zero (suc j) bytes ne = refl
at_other (s ∷ ss) (suc i) zero bytes ne = refl
at_other (s ∷ ss) (suc i) (suc j) bytes ne = at_other ss i j bytes (λ e. ne (ap (λ (n : ℕ). suc n) e))

pub taken_here : (ss : List Shown) (c i : ℕ) (bytes : List ℕ) → i + 1 ≡ c → (length ss ≤ i → bytes ≡ []) → taken_at (gathered ss c bytes) i ≡ taken_at ss i ++ bytes
taken_here ss c i bytes e none =
    ap (λ (n : ℕ). taken_at (gathered ss n bytes) i) (sym e) ∙ ap (λ (z : List Shown). taken_at z i) (gathered_place ss i bytes) ∙ at_here ss i bytes none

pub taken_other : (ss : List Shown) (c i : ℕ) (bytes : List ℕ) → i + 1 ≢ c → taken_at (gathered ss c bytes) i ≡ taken_at ss i
taken_other ss c i bytes ne = go (eqb c 0) refl
  where
    go : (b : Bool) → eqb c 0 ≡ b → taken_at (gathered ss c bytes) i ≡ taken_at ss i
    go true e = ap (λ (z : List Shown). taken_at z i) (gathered_none ss c bytes (Rattle.std.proofs.lemmas.Bool.eqb-true c 0 e))
    go false e =
        let not : c ≢ 0 = Rattle.std.proofs.lemmas.Bool.eqb-false c 0 e in
        ap (λ (z : List Shown). taken_at z i) (gathered_some ss c bytes not) ∙ at_other ss i (c - 1) bytes (λ q. ne (omega arith))

-- a connection that is opened adds no bytes
pub taken_opened : (ss : List Shown) (i : ℕ) → taken_at (with_opened ss) i ≡ taken_at ss i
taken_opened [] zero = refl
taken_opened [] (suc i) = refl
taken_opened (s ∷ ss) zero = refl
taken_opened (s ∷ ss) (suc i) = taken_opened ss i

-- what code writes at a place
pub gathered_is : (ss : List Shown) (i : ℕ) (bytes : List ℕ) (d : Shown) → i < length ss → slice_set ss i (record (get_or ss i d) { output = (get_or ss i d).output ++ bytes }) ≡ gathered_at ss i bytes
gathered_is [] i bytes d lt = absurd (omega arith)
gathered_is (x ∷ ss) zero bytes d lt = refl
gathered_is (x ∷ ss) (suc i) bytes d lt = ap (λ (z : List Shown). x ∷ z) (gathered_is ss i bytes d (omega arith))

pub gathered_past : (ss : List Shown) (i : ℕ) (bytes : List ℕ) → length ss ≤ i → gathered_at ss i bytes ≡ ss
gathered_past [] i bytes le = refl
gathered_past (s ∷ ss) zero bytes le = absurd (omega arith)
gathered_past (s ∷ ss) (suc i) bytes le = ap (λ (z : List Shown). s ∷ z) (gathered_past ss i bytes (omega arith))

-- ---- what is taken and what is left

pub take_nothing : (n : ℕ) (xs : List ℕ) → xs ≡ [] → take n xs ≡ []
take_nothing n xs e = ap (take n) e ∙ take-nil n

pub drop_nothing : (n : ℕ) (xs : List ℕ) → xs ≡ [] → drop n xs ≡ []
drop_nothing n xs e = ap (drop n) e ∙ drop-nil n
