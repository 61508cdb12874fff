-- If a connection can be opened a slot is free: each taken slot has a connection of its own that is not gone.
use Rattle.serving.proofs.Names.{◌≡◌, ◌≢◌, ◌≤◌, ◌<◌, ◌+◌, ℕ, zero, suc, List, [], ◌∷◌, Bool, true, false, cond, Option, Some, None, refl, sym, ap, ◌∙◌, ◌⊎◌, inl, inr, count_by, slice_index_or, arith, false≢true, cases_eq, leb-true, le-leb, lt-leb, ltb-true, eqb-true, eq-eqb, ne_eqb, is_some, nat_le, nat_lt, ◌==◌, ◌&&◌, World, count_open, is_gone, can_open, At, IsFit, HasEnded, Peer, if◌then◌else◌}
use Rattle.std.proofs.lemmas.List.Recursion.{is_count_by}

-- ---- how many slots pass a test

abbrev pub tally : (Option Peer → Bool) → List (Option Peer) → ℕ
tally f [] = 0
tally f (o ∷ ps) = cond (f o) (1 + tally f ps) (tally f ps)

pub tally_counts : (f : Option Peer → Bool) (ps : List (Option Peer)) → tally f ps ≡ count_by f ps
tally_counts f ps = is_count_by (tally f) f refl (λ o os. refl) ps

tally_none : (f : Option Peer → Bool) (ps : List (Option Peer)) → ((i : ℕ) → f (slice_index_or ps i None) ≡ false) → tally f ps ≡ 0
tally_none f [] none = refl
tally_none f (o ∷ ps) none = ap (λ (x : Bool). cond x (1 + tally f ps) (tally f ps)) (none 0) ∙ tally_none f ps (λ i. none (suc i))

-- what passes one test passes the other
tally_le : (f g : Option Peer → Bool) (ps : List (Option Peer)) → ((i : ℕ) → f (slice_index_or ps i None) ≡ true → g (slice_index_or ps i None) ≡ true) → tally f ps ≤ tally g ps
tally_le f g [] each = omega arith
tally_le f g (o ∷ ps) each = go (f o) (g o) (each 0) (tally_le f g ps (λ i. each (suc i)))
  where
    go : (x y : Bool) → (x ≡ true → y ≡ true) → tally f ps ≤ tally g ps → cond x (1 + tally f ps) (tally f ps) ≤ cond y (1 + tally g ps) (tally g ps)
    go true true e le = omega (arith, le)
    go true false e le = absurd (false≢true (e refl))
    go false true e le = omega (arith, le)
    go false false e le = omega (arith, le)

-- what passes one test passes one of two others
tally_either : (f g h : Option Peer → Bool) (ps : List (Option Peer)) → ((o : Option Peer) → f o ≡ true → (g o ≡ true) ⊎ (h o ≡ true)) → tally f ps ≤ tally g ps + tally h ps
tally_either f g h [] each = omega arith
tally_either f g h (o ∷ ps) each = go (f o) (g o) (h o) (each o) (tally_either f g h ps each)
  where
    neither : (false ≡ true) ⊎ (false ≡ true) → ⊥
    neither (inl e) = false≢true e
    neither (inr e) = false≢true e

    go : (x y z : Bool) → (x ≡ true → (y ≡ true) ⊎ (z ≡ true)) → tally f ps ≤ tally g ps + tally h ps
        → cond x (1 + tally f ps) (tally f ps) ≤ cond y (1 + tally g ps) (tally g ps) + cond z (1 + tally h ps) (tally h ps)
    go true true true e le = omega (arith, le)
    go true true false e le = omega (arith, le)
    go true false true e le = omega (arith, le)
    go true false false e le = absurd (neither (e refl))
    go false true true e le = omega (arith, le)
    go false true false e le = omega (arith, le)
    go false false true e le = omega (arith, le)
    go false false false e le = omega (arith, le)

-- ---- slots by the numbers of their connections

abbrev has_upto : ℕ → Option Peer → Bool
has_upto n None = false
has_upto n (Some p) = nat_le p.connection n

abbrev has : ℕ → Option Peer → Bool
has c None = false
has c (Some p) = p.connection == c

has_one_more : (n : ℕ) (o : Option Peer) → has_upto (suc n) o ≡ true → (has_upto n o ≡ true) ⊎ (has (suc n) o ≡ true)
has_one_more n None e = inl e
has_one_more n (Some p) e = go (cases_eq p.connection (suc n))
  where
    le : p.connection ≤ suc n
    le = leb-true p.connection (suc n) e

    go : (p.connection ≡ suc n) ⊎ (p.connection ≢ suc n) → (has_upto n (Some p) ≡ true) ⊎ (has (suc n) (Some p) ≡ true)
    go (inl same) = inr (eq-eqb p.connection (suc n) same)
    go (inr ne) = inl (le-leb p.connection n (omega (arith, le, ne)))

has_not : (c : ℕ) (o : Option Peer) → ((p : Peer) → o ≡ Some p → p.connection ≢ c) → has c o ≡ false
has_not c None other = refl
has_not c (Some p) other = ne_eqb p.connection c (other p refl)

has_none_upto : (o : Option Peer) → ((p : Peer) → o ≡ Some p → 0 < p.connection) → has_upto 0 o ≡ false
has_none_upto None numbered = refl
has_none_upto (Some p) numbered = lt-leb p.connection 0 (numbered p refl)

has_all_upto : (n : ℕ) (o : Option Peer) → ((p : Peer) → o ≡ Some p → p.connection ≤ n) → is_some o ≡ true → has_upto n o ≡ true
has_all_upto n None le e = absurd (false≢true e)
has_all_upto n (Some p) le e = le-leb p.connection n (le p refl)

cond_le : (x : Bool) (n m : ℕ) → (x ≡ true → 1 + n ≤ m) → (x ≡ false → n ≤ m) → cond x (1 + n) n ≤ m
cond_le true n m more same = more refl
cond_le false n m more same = same refl

if_le : (x : Bool) (n m : ℕ) → (x ≡ true → n ≤ m) → (x ≡ false → n ≤ m + 1) → n ≤ (if x then m else m + 1)
if_le true n m gone stands = gone refl
if_le false n m gone stands = stands refl

-- a connection has one slot at most
has_once : (c : ℕ) (ps : List (Option Peer)) → ((i j : ℕ) (p q : Peer) → At ps i p → At ps j q → p.connection ≡ q.connection → i ≡ j) → tally (has c) ps ≤ 1
has_once c [] distinct = omega arith
has_once c (None ∷ ps) distinct = has_once c ps (λ i j p q x y e. let same = distinct (suc i) (suc j) p q x y e in omega (arith, same))
has_once c (Some p ∷ ps) distinct = cond_le (p.connection == c) (tally (has c) ps) 1 here (λ e. has_once c ps (λ i j q r x y f. let same = distinct (suc i) (suc j) q r x y f in omega (arith, same)))
  where
    here : p.connection == c ≡ true → 1 + tally (has c) ps ≤ 1
    here e =
        let none : tally (has c) ps ≡ 0 = tally_none (has c) ps (λ i. has_not c (slice_index_or ps i None) (λ q at f.
        let same : 0 ≡ suc i = distinct 0 (suc i) p q refl at (eqb-true p.connection c e ∙ sym f) in
        absurd (omega (arith, same)))) in
        omega (arith, none)

-- one number more: its connection is gone, and no slot has it, or it stands, and one slot at most has it
in_slots_more : (w : World) (ps : List (Option Peer)) → IsFit w ps → ((i : ℕ) → HasEnded w ps i) → (n : ℕ) → tally (has_upto n) ps ≤ count_open w n → tally (has_upto (suc n)) ps ≤ count_open w (suc n)
in_slots_more w ps fit ended n before = if_le (is_gone w (suc n)) (tally (has_upto (suc n)) ps) (count_open w n) gone stands
  where
    more : tally (has_upto (suc n)) ps ≤ tally (has_upto n) ps + tally (has (suc n)) ps
    more = tally_either (has_upto (suc n)) (has_upto n) (has (suc n)) ps (has_one_more n)

    gone : is_gone w (suc n) ≡ true → tally (has_upto (suc n)) ps ≤ count_open w n
    gone e =
        let none : tally (has (suc n)) ps ≡ 0 = tally_none (has (suc n)) ps (λ i. has_not (suc n) (slice_index_or ps i None) (λ p at f.
        false≢true (sym (ended i p at) ∙ ap (is_gone w) f ∙ e))) in
        omega (arith, before, more, none)

    stands : is_gone w (suc n) ≡ false → tally (has_upto (suc n)) ps ≤ count_open w n + 1
    stands e = let one = has_once (suc n) ps fit.distinct in omega (arith, before, more, one)

-- the slots with connections up to n are no more than those connections that stand
in_slots_upto : (w : World) (ps : List (Option Peer)) → IsFit w ps → ((i : ℕ) → HasEnded w ps i) → (n : ℕ) → tally (has_upto n) ps ≤ count_open w n
in_slots_upto w ps fit ended zero =
    let none : tally (has_upto 0) ps ≡ 0 = tally_none (has_upto 0) ps (λ i. has_none_upto (slice_index_or ps i None) (fit.numbered i)) in
    omega (arith, none)
in_slots_upto w ps fit ended (suc n) = in_slots_more w ps fit ended n (in_slots_upto w ps fit ended n)

both_first : (x y : Bool) → (x && y) ≡ true → x ≡ true
both_first true y e = refl
both_first false y e = e

-- where a connection can be opened, fewer slots are taken than connections may stand
pub slot_left : (w : World) (ps : List (Option Peer)) → IsFit w ps → ((i : ℕ) → HasEnded w ps i) → can_open w ≡ true → count_by is_some ps < 1024
slot_left w ps fit ended can =
    let all : tally is_some ps ≤ tally (has_upto w.given) ps = tally_le is_some (has_upto w.given) ps (λ i. has_all_upto w.given (slice_index_or ps i None) (fit.given i)) in
    let in_slots = in_slots_upto w ps fit ended w.given in
    let few : count_open w w.given < 1024 = ltb-true (count_open w w.given) 1024 (both_first (nat_lt (count_open w w.given) 1024) _ can) in
    let same = tally_counts is_some ps in
    omega (arith, all, in_slots, few, same)
