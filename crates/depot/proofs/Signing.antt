-- What the signs of queues say, as queues are lent and change.
use Rattle.depot.proofs.Names.{◌≡◌, ℕ, zero, suc, ◌+◌, ◌*◌, ◌<◌, ◌≤◌, Bool, false, cond, List, [], Option, Some, None, length, get_or, set, refl, sym, ap, subst, ◌∙◌, arith, inl, inr, ne_eqb, eqb_tells, leb_tells, get_or-set_other, get_or_past, get_or-replicate, length-set, length-replicate, Topology, Entry, bit_of, IsNextMark, Line, ready_count, Store, entries_of, IsNextReady, ready_bit, ready_places, AreSignedBut, ReturnsNext}
use Rattle.std.proofs.Common.{◌==◌, replicate}
use Rattle.depot.proofs.Changes.{entries_of-length, entries_of-at, entries_of-set}

-- ---- all are signed

all_signed : (lent : ℕ) (lists : List (List Entry)) (bits : List ℕ) → length lists ≤ length bits * 64 → ((k : ℕ) → bit_of bits k ≡ ready_places lists k) → AreSignedBut lent lists bits
all_signed lent lists bits room ready = record {
  room = room;
  ready = λ k other. ready k;
  past = λ k le. ready k ∙ ap ready_bit (get_or_past lists k [] le);
}

none_there : (n k : ℕ) (d : List Entry) → get_or (replicate n d) k d ≡ d
none_there n k d = elim (leb_tells n k) [
  | inl p ↦ get_or_past (replicate n d) k d (let long = length-replicate n d in let le = p.1 in omega arith)
  | inr p ↦ get_or-replicate n k d d (let lt = p.1 in omega arith)
]

-- no queue has any message
pub signed_new : (n : ℕ) (bits : List ℕ) → ((k : ℕ) → bit_of bits k ≡ 0) → n ≤ length bits * 64 → AreSignedBut 0 (replicate n []) bits
signed_new n bits ready room =
    let none : List Entry = [] in
    let long = length-replicate n none in
    all_signed 0 (replicate n []) bits (omega arith) (λ k. ready k ∙ sym (ap ready_bit (none_there n k [])))

-- ---- a queue changes

-- the one that was lent is written
pub lent_written : (lent : ℕ) (lines : List Line) (bits : List ℕ) (w : Line) → AreSignedBut lent (entries_of lines) bits → AreSignedBut lent (entries_of (set lines lent w)) bits
lent_written lent lines bits w s =
    subst (λ (lists : List (List Entry)). AreSignedBut lent lists bits) (sym (entries_of-set lines lent w w.entries refl)) (
    let long = length-set (entries_of lines) lent w.entries in
    let room = s.room in record {
      room = omega (arith, long, room);
      ready = λ k other. s.ready k other ∙ sym (ap ready_bit (get_or-set_other (entries_of lines) lent k w.entries [] other));
      past = λ k le. s.past k (omega (arith, le, long));
    })

-- ---- the next one that has something ready

-- none of those before the lent one is in the set
abbrev pub NoneBefore : (ℕ → ℕ) → ℕ → ℕ → Type 0
NoneBefore bits from lent = (k : ℕ) → from ≤ k → k < lent → bits k ≡ 0

pub none_before : (lent from place : ℕ) (bits : ℕ → ℕ) → lent ≤ place → IsNextMark bits from place → NoneBefore bits from lent
none_before lent from place bits le next = λ k ge lt. next.before k ge (omega (arith, le, lt))

-- whether the lent one is in the set
pub lent_bit : (lines : List Line) (lent : ℕ) (l : Line) (b : Bool) → lent < length lines → l ≡ get_or lines lent l → cond b 1 0 ≡ ready_bit l.entries → ready_places (entries_of lines) lent ≡ cond b 1 0
lent_bit lines lent l b lt is e = ap ready_bit (entries_of-at lines lent l lt ∙ ap (λ (m : Line). m.entries) (sym is)) ∙ sym e

-- the next one is behind the lent one, which is not in the set
pub next_behind : (lent from place : ℕ) (bits set : ℕ → ℕ) → ((k : ℕ) → (k ≡ lent → ⊥) → bits k ≡ set k) → lent < place → set lent ≡ 0 → IsNextMark bits from place → IsNextMark set from place
next_behind lent from place bits set agree lt not next = record {
  least = next.least;
  there = sym (agree place (λ e. absurd (omega (arith, e, lt)))) ∙ next.there;
  before = λ k ge l. elim (eqb_tells k lent) [ inl p ↦ ap set p.1 ∙ not | inr p ↦ sym (agree k p.1) ∙ next.before k ge l ];
}

-- it is passed
pub next_past : (lent from : ℕ) (bits set : ℕ → ℕ) (o : Option ℕ) → ((k : ℕ) → (k ≡ lent → ⊥) → bits k ≡ set k) → from ≤ lent → set lent ≡ 0 → NoneBefore bits from lent → ReturnsNext bits (lent + 1) o → ReturnsNext set from o
next_past lent from bits set o agree ge not none next = tells o next
  where
    passed : (k : ℕ) → from ≤ k → k ≤ lent → set k ≡ 0
    passed k g le = elim (eqb_tells k lent) [
      | inl p ↦ ap set p.1 ∙ not
      | inr p ↦ (let other = p.1 in sym (agree k other) ∙ none k g (omega (arith, le, other)))
    ]

    empty : (p k : ℕ) → ((j : ℕ) → lent + 1 ≤ j → j < p → bits j ≡ 0) → from ≤ k → k < p → set k ≡ 0
    empty p k before g lt = elim (leb_tells k lent) [
      | inl q ↦ passed k g q.1
      | inr q ↦ (let gt = q.1 in sym (agree k (λ e. absurd (omega (arith, e, gt)))) ∙ before k (omega (arith, gt)) lt)
    ]

    tells : (o : Option ℕ) → ReturnsNext bits (lent + 1) o → ReturnsNext set from o
    tells None nothing = λ k g. empty (k + 1) k (λ j l lt. nothing j l) g (omega arith)
    tells (Some place) n = let least = n.least in record {
      least = omega (arith, ge, least);
      there = sym (agree place (λ e. absurd (omega (arith, e, least)))) ∙ n.there;
      before = λ k g lt. empty place k n.before g lt;
    }

-- ---- what is told of a store

some_ready : (n : ℕ) → cond {A = ℕ} (n == 0) 0 1 ≡ 1 → 0 < n
some_ready zero e = absurd (omega (arith, e))
some_ready (suc n) e = omega arith

none_ready : (n : ℕ) → cond {A = ℕ} (n == 0) 0 1 ≡ 0 → 0 < n → ⊥
none_ready n e h =
    let other : (n == 0) ≡ false = ne_eqb n 0 (λ z. absurd (omega (arith, z, h))) in
    let one : cond {A = ℕ} (n == 0) 0 1 ≡ 1 = ap (λ (b : Bool). cond {A = ℕ} b 0 1) other in
    absurd (omega (arith, one, e))

-- the next one has something ready, and none before it
told_there : (t : Topology) (lines : List Line) (n from : ℕ) (o : Option ℕ) → length lines ≡ length t.queues → ReturnsNext (ready_places (entries_of lines)) from o
    → IsNextReady (record { topology = t; queues = entries_of lines; published = n }) from o
told_there t lines n from None len none = λ p ge lt has. none_ready (ready_count (get_or (entries_of lines) p [])) (none p ge) has
told_there t lines n from (Some place) len next = record {
  behind = next.least;
  within = elim (leb_tells (length lines) place) [
    | inl p ↦ (
        let all = entries_of-length lines in
        let le = p.1 in
        let past : ◌≡◌ {A = ℕ} 0 1 = sym (ap ready_bit (get_or_past (entries_of lines) place [] (omega (arith, all, le)))) ∙ next.there in
        absurd (omega (arith, past)))
    | inr p ↦ (let lt = p.1 in omega (arith, lt, len))
  ];
  ready = some_ready (ready_count (get_or (entries_of lines) place [])) next.there;
  first = λ p ge lt has. none_ready (ready_count (get_or (entries_of lines) p [])) (next.before p ge lt) has;
}

pub next_told : (t : Topology) (lines : List Line) (n : ℕ) (s : Store) (from : ℕ) (o : Option ℕ) → record { topology = t; queues = entries_of lines; published = n } ≡ s → length lines ≡ length t.queues
    → ReturnsNext (ready_places (entries_of lines)) from o → IsNextReady s from o
next_told t lines n s from o view len next = subst (λ (x : Store). IsNextReady x from o) view (told_there t lines n from o len next)
