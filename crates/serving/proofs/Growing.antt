-- What waits for the connections to which a round delivers is at least what was counted, slot by slot.
use Rattle.serving.proofs.Names.{◌≡◌, ◌≢◌, ◌≤◌, ◌<◌, ◌⊎◌, ℕ, suc, List, [], ◌∷◌, Bool, true, false, Option, Some, None, length, refl, sym, ap, subst, inl, inr, arith, slice_index_or, slice_set, sum_by, if◌then◌else◌, nat_lt, false≢true, cases_eq, cases_lt, ltb-true, lt-ltb, get_or-set_same, get_or-set_other, get_or_past, length-set, grown, grown_bytes, Happening, World, Delivers, Same, Peer}
use Rattle.std.specs.Prelude.{sum}
use Rattle.std.proofs.Common.{length-append}
use Rattle.std.proofs.lemmas.List.Sums.{sum_by-cons}
use Rattle.model.specs.Spelling.{spelling}
use Rattle.model.specs.declared.events.Send.{Send}
use Rattle.serving.specs.Load.{AreGrown, NoneShorter, KeepsGrown, Recounts}

-- ---- one slot

kept : (s a b : ℕ) → a ≤ b → (if nat_lt s a then a else 0) ≤ (if nat_lt s b then b else 0)
kept s a b le = go (nat_lt s a) (nat_lt s b) (ltb-true s a) (lt-ltb s b)
  where
    go : (x y : Bool) → (x ≡ true → s < a) → (s < b → y ≡ true) → (if x then a else 0) ≤ (if y then b else 0)
    go false y f g = omega arith
    go true true f g = le
    go true false f g = let lt = f refl in absurd (false≢true (g (omega (arith, lt, le))))

whole : (s a : ℕ) → s < a → a ≤ (if nat_lt s a then a else 0)
whole s a lt = go (nat_lt s a) (lt-ltb s a lt)
  where
    go : (x : Bool) → x ≡ true → a ≤ (if x then a else 0)
    go true e = omega arith
    go false e = absurd (false≢true e)

grown_on : (s a b : World) (o : Option Peer) → NoneShorter a b → grown s a o ≤ grown s b o
grown_on s a b None longer = omega arith
grown_on s a b (Some p) longer = kept (length (s.wire p.connection).output) (length (a.wire p.connection).output) (length (b.wire p.connection).output) (longer p.connection)

-- ---- outputs

pub longer_not : (w : World) → NoneShorter w w
longer_not w = λ c. omega arith

pub longer_then : (a b c : World) → NoneShorter a b → NoneShorter b c → NoneShorter a c
longer_then a b c p q = λ d. let le = p d in let more = q d in omega (arith, le, more)

pub longer_same : (a b : World) → Same a b → NoneShorter a b
longer_same a b same = λ c. let is = ap (λ w. length w.output) (same.wires c) in omega (arith, is)

spelled : (max : ℕ) (sends : List Send) (s : Send) → sends ≡ s ∷ [] → 0 < length (spelling max (s ∷ [])) → 0 < length (spelling max sends)
spelled max sends s e lt = subst (λ (ss : List Send). 0 < length (spelling max ss)) (sym e) lt

-- a delivery is put out
pub delivered_longer : (c : ℕ) (a b : World) (hs : List Happening) → Delivers a c hs b → length (a.wire c).output < length (b.wire c).output
delivered_longer c a b hs d =
    let h = d.puts.h in
    let some : 0 < length (spelling h.frame_max h.sends) = spelled h.frame_max h.sends _ d.puts.happens.stepped.acts.makes.sent (omega arith) in
    let is = ap length d.puts.output in
    let both = length-append (a.wire c).output (spelling h.frame_max h.sends) in
    omega (arith, some, is, both)

-- and no other output changes
pub longer_delivered : (c : ℕ) (a b : World) (hs : List Happening) → Delivers a c hs b → NoneShorter a b
longer_delivered c a b hs d = λ e. go e (cases_eq e c)
  where
    go : (e : ℕ) → (e ≡ c) ⊎ (e ≢ c) → length (a.wire e).output ≤ length (b.wire e).output
    go e (inl same) = let lt = delivered_longer c a b hs d in subst (λ (x : ℕ). length (a.wire x).output ≤ length (b.wire x).output) (sym same) (omega (arith, lt))
    go e (inr other) = let is = ap (λ w. length w.output) (d.puts.others e other) in omega (arith, is)

-- ---- all slots

-- nothing was delivered yet
pub grown_none : (w : World) (ps : List (Option Peer)) (waiting : List ℕ) → ((i : ℕ) → slice_index_or waiting i 0 ≡ 0) → AreGrown w w ps waiting
grown_none w ps waiting none = λ i. let is = none i in omega (arith, is)

pub grown_idle : (ps : List (Option Peer)) (a b : World) (waiting : List ℕ) → NoneShorter a b → KeepsGrown ps a waiting b waiting
grown_idle ps a b waiting longer = λ s since right i.
    let le = right i in
    let more = grown_on s a b (slice_index_or ps i None) longer in
    omega (arith, le, more)

-- the number of the slot that got a delivery is the length of its output
grown_at : (s a b : World) (ps : List (Option Peer)) (was : List ℕ) (i k : ℕ) (p : Peer) → length (s.wire p.connection).output < length (b.wire p.connection).output → slice_index_or ps k None ≡ Some p
    → (i ≡ k) → slice_index_or (slice_set was k (length (b.wire p.connection).output)) i 0 ≤ grown s b (slice_index_or ps i None)
grown_at s a b ps was i k p lt at same = subst (λ (j : ℕ). slice_index_or (slice_set was k n) j 0 ≤ grown s b (slice_index_or ps j None)) (sym same) (go (cases_lt k (length was)))
  where
    n : ℕ
    n = length (b.wire p.connection).output

    all : n ≤ grown s b (slice_index_or ps k None)
    all = subst (λ (o : Option Peer). n ≤ grown s b o) (sym at) (whole (length (s.wire p.connection).output) n lt)

    go : (k < length was) ⊎ (length was ≤ k) → slice_index_or (slice_set was k n) k 0 ≤ grown s b (slice_index_or ps k None)
    go (inl within) = let is = get_or-set_same was k n 0 within in omega (arith, is, all)
    go (inr past) =
        let len = length-set was k n in
        let is = get_or_past (slice_set was k n) k 0 (omega (arith, past, len)) in
        omega (arith, is)

pub grown_delivered : (ps : List (Option Peer)) (a b : World) (c : ℕ) (hs : List Happening) (was is : List ℕ) → Delivers a c hs b → Recounts b ps c was is → KeepsGrown ps a was b is
grown_delivered ps a b c hs was is d (inl same) = subst (λ (ns : List ℕ). KeepsGrown ps a was b ns) (sym same) (grown_idle ps a b was (longer_delivered c a b hs d))
grown_delivered ps a b c hs was is d (inr (k, p, at, own, set)) = subst (λ (ns : List ℕ). KeepsGrown ps a was b ns) (sym set) (λ s since right i. go s since right i (cases_eq i k))
  where
    go : (s : World) → NoneShorter s a → AreGrown s a ps was → (i : ℕ) → (i ≡ k) ⊎ (i ≢ k) → slice_index_or (slice_set was k (length (b.wire c).output)) i 0 ≤ grown s b (slice_index_or ps i None)
    go s since right i (inl same) =
        let before = since c in
        let more = delivered_longer c a b hs d in
        let lt : length (s.wire p.connection).output < length (b.wire p.connection).output = subst (λ (x : ℕ). length (s.wire x).output < length (b.wire x).output) (sym own) (omega (arith, before, more)) in
        subst (λ (x : ℕ). slice_index_or (slice_set was k (length (b.wire x).output)) i 0 ≤ grown s b (slice_index_or ps i None)) own (grown_at s a b ps was i k p lt at same)
    go s since right i (inr other) =
        let kept_here = get_or-set_other was k i (length (b.wire c).output) 0 other in
        let le = grown_idle ps a b was (longer_delivered c a b hs d) s since right i in
        omega (arith, kept_here, le)

sums : (f : Option Peer → ℕ) → f None ≡ 0 → (ns : List ℕ) (ps : List (Option Peer)) → ((i : ℕ) → slice_index_or ns i 0 ≤ f (slice_index_or ps i None)) → sum ns ≤ sum_by f ps
sums f e [] ps each = omega arith
sums f e (n ∷ ns) [] each =
    let here = each 0 in
    let rest = sums f e ns [] (λ i. each (suc i)) in
    let cons = sum_by-cons (λ (x : ℕ). x) n ns in
    omega (arith, here, rest, cons, e)
sums f e (n ∷ ns) (o ∷ ps) each =
    let here = each 0 in
    let rest = sums f e ns ps (λ i. each (suc i)) in
    let first = sum_by-cons (λ (x : ℕ). x) n ns in
    let second = sum_by-cons f o ps in
    omega (arith, here, rest, first, second)

-- what was counted waits
pub grown_enough : (enough : ℕ) (s w : World) (ps : List (Option Peer)) (waiting : List ℕ) → AreGrown s w ps waiting → enough ≤ sum waiting → enough ≤ grown_bytes s w ps
grown_enough enough s w ps waiting right much = let le = sums (grown s w) refl waiting ps right in omega (arith, le, much)
