-- A slot that is marked as full holds a connection that is paused, and what comes for other connections leaves it so.
use Rattle.serving.proofs.Names.{◌≡◌, ◌≢◌, ◌≤◌, ◌<◌, ◌+◌, ◌⊎◌, ◌++◌, ℕ, suc, zero, List, [], ◌∷◌, Bool, true, false, Option, Some, None, length, sym, ap, subst, ◌∙◌, inl, inr, slice_set, slice_index_or, arith, false≢true, cases_eq, lt-ltb, ltb-true, same_Some, nat_le, nat_lt, To_read, Happening, World, Wire, Same, Delivers, is_over, is_gone, is_awake, is_paused, is_past_bound, has_output, At, Filled, OthersStay, IsFit, StaysOrFrees, IsMarkedAt, HasEnded, read_of, Peer, get_or-set_other, if◌then◌else◌}
use Rattle.std.proofs.Common.{not, length-append}
use Rattle.model.specs.Spelling.{spelling}
use Rattle.serving.specs.Quiet.{AreFull}
use Rattle.serving.proofs.Others.{StaysFor, others_stay, same_stays}
use Rattle.std.proofs.lemmas.Bool.{and_parts, and_right, not-true, not_from_true}
use Rattle.serving.proofs.Turning.{output_stands}
use Rattle.serving.proofs.Quieting.{marked_now, not_paused}

-- ---- one connection

paused_stays : (a b : World) (d : ℕ) → StaysFor d a b → is_paused b d ≡ is_paused a d
paused_stays a b d p = ap (λ (w : Wire). is_past_bound w.output) p.wire

long_output : (n : ℕ) → nat_le 1048576 n ≡ true → nat_lt 0 n ≡ true
long_output n e = let long : 1048575 < n = ltb-true 1048575 n e in lt-ltb 0 n (omega (arith, long))

-- one that is paused has output
pub paused_output : (w : World) (c : ℕ) → is_paused w c ≡ true → has_output w c ≡ true
paused_output w c e = long_output (length (w.wire c).output) e

-- it is not awake
pub paused_waits : (w : World) (c : ℕ) → is_paused w c ≡ true → is_awake w c ≡ false
paused_waits w c e = and_right (not (is_over w c)) (not (is_paused w c)) (not_from_true (is_paused w c) e)

-- and it is not gone
pub paused_not_gone : (w : World) (c : ℕ) → is_paused w c ≡ true → is_gone w c ≡ false
paused_not_gone w c e = output_stands w c (paused_output w c e)

-- more output leaves it paused
longer : (m n : ℕ) → m ≤ n → nat_le 1048576 m ≡ true → nat_le 1048576 n ≡ true
longer m n le e = let long : 1048575 < m = ltb-true 1048575 m e in lt-ltb 1048575 n (omega (arith, le, long))

-- ---- the slots

at_after : (ps qs : List (Option Peer)) (i j : ℕ) (q : Peer) → StaysOrFrees ps i qs → j ≢ i → At ps j q → At qs j q
at_after ps qs i j q (inl e) ne at = subst (λ (z : List (Option Peer)). At z j q) (sym e) at
at_after ps qs i j q (inr e) ne at = subst (λ (z : List (Option Peer)). At z j q) (sym e) (get_or-set_other ps i j None None ne ∙ at)

-- no slot is marked at first
pub none_full : (w : World) (ps : List (Option Peer)) (fs : List Bool) → ((i : ℕ) → slice_index_or fs i false ≡ false) → AreFull w ps fs
none_full w ps fs none = λ i m. absurd (false≢true (sym (none i) ∙ m))

-- the outputs of all connections stay
pub full_stays : (a b : World) (ps : List (Option Peer)) (fs : List Bool) → ((c : ℕ) → StaysFor c a b) → AreFull a ps fs → AreFull b ps fs
full_stays a b ps fs stays full = λ i m. let was = full i m in (was.0, was.1, paused_stays a b was.0.connection (stays was.0.connection) ∙ was.2)

pub full_idle : (a b : World) (ps : List (Option Peer)) (fs : List Bool) → Same a b → AreFull a ps fs → AreFull b ps fs
full_idle a b ps fs same full = full_stays a b ps fs (λ c. same_stays a b same c) full

-- something happened for the connection of one slot, which is not marked now
pub full_apart : (a b : World) (ps qs : List (Option Peer)) (i : ℕ) (p : Peer) (fs gs : List Bool) → IsFit a ps → At ps i p → OthersStay p.connection a b → StaysOrFrees ps i qs
    → ((j : ℕ) → IsMarkedAt gs j → (j ≢ i) × IsMarkedAt fs j) → AreFull a ps fs → AreFull b qs gs
full_apart a b ps qs i p fs gs fit here distinct slots marks full = λ j m.
    let old = marks j m in
    let was = full j old.1 in
    (was.0, at_after ps qs i j was.0 slots old.0 was.1, paused_stays a b was.0.connection (others_stay p.connection a b distinct was.0.connection (λ e. old.0 (fit.distinct j i was.0 p was.1 here e))) ∙ was.2)

-- a slot was freed, or stayed, which is not marked
pub full_frees : (w : World) (ps qs : List (Option Peer)) (i : ℕ) (fs : List Bool) → StaysOrFrees ps i qs → ((j : ℕ) → IsMarkedAt fs j → (j ≢ i) × IsMarkedAt fs j) → AreFull w ps fs → AreFull w qs fs
full_frees w ps qs i fs slots marks full = λ j m. let was = full j m in (was.0, at_after ps qs i j was.0 slots (marks j m).0 was.1, was.2)

-- the slot of a connection that is not paused is not marked
pub other_full : (w : World) (ps : List (Option Peer)) (i : ℕ) (p : Peer) (fs : List Bool) → At ps i p → is_paused w p.connection ≡ false → AreFull w ps fs → (j : ℕ) → IsMarkedAt fs j → (j ≢ i) × IsMarkedAt fs j
other_full w ps i p fs here runs full j m = (
  λ e.
      let was = full j m in
      let same : was.0 ≡ p = same_Some was.0 p (sym was.1 ∙ ap (λ (k : ℕ). slice_index_or ps k None) e ∙ here) in
      false≢true (sym runs ∙ ap (λ (q : Peer). is_paused w q.connection) (sym same) ∙ was.2),
  m,
)

-- something happened for a connection that was awake
pub full_read : (a b : World) (ps qs : List (Option Peer)) (i : ℕ) (p : Peer) (fs : List Bool) → IsFit a ps → At ps i p → is_awake a p.connection ≡ true → OthersStay p.connection a b → StaysOrFrees ps i qs
    → AreFull a ps fs → AreFull b qs fs
full_read a b ps qs i p fs fit here awake distinct slots full =
    let short = not-true (is_paused a p.connection) (and_parts (not (is_over a p.connection)) (not (is_paused a p.connection)) awake).1 in
    full_apart a b ps qs i p fs fs fit here distinct slots (other_full a ps i p fs here short full) full

-- a slot was freed, or stayed, whose connection has no output
pub full_silent : (w : World) (ps qs : List (Option Peer)) (i : ℕ) (p : Peer) (fs : List Bool) → At ps i p → has_output w p.connection ≡ false → StaysOrFrees ps i qs → AreFull w ps fs → AreFull w qs fs
full_silent w ps qs i p fs here silent slots full = full_frees w ps qs i fs slots (other_full w ps i p fs here (not_paused w p.connection silent) full) full

-- a slot was filled by a connection that was opened
pub full_met : (a b : World) (ps qs : List (Option Peer)) (i : ℕ) (p : Peer) (fs : List Bool) → IsFit a ps → OthersStay (a.given + 1) a b → Filled ps i p qs → AreFull a ps fs → AreFull b qs fs
full_met a b ps qs i p fs fit distinct filled full = λ j m.
    let was = full j m in
    let q = was.0 in
    let at : At ps j q = was.1 in
    let given = fit.given j q at in
    let ne : j ≢ i = λ e.
    let none : None ≡ Some q = sym filled.free ∙ ap (λ (k : ℕ). slice_index_or ps k None) (sym e) ∙ at in
    cc none in
    (q, filled.others j ne ∙ at, paused_stays a b q.connection (others_stay (a.given + 1) a b distinct q.connection (λ e. omega (arith, given, e))) ∙ was.2)

-- a delivery to a connection that is paused leaves it so
pub full_delivered : (a b : World) (ps : List (Option Peer)) (c : ℕ) (hs : List Happening) (fs : List Bool) → Delivers a c hs b → OthersStay c a b → AreFull a ps fs → AreFull b ps fs
full_delivered a b ps c hs fs d distinct full = λ i m. let was = full i m in (was.0, was.1, go was.0.connection (cases_eq was.0.connection c) was.2)
  where
    go : (x : ℕ) → (x ≡ c) ⊎ (x ≡ c → ⊥) → is_paused a x ≡ true → is_paused b x ≡ true
    go x (inr ne) is = paused_stays a b x (others_stay c a b distinct x ne) ∙ is
    go x (inl e) is =
        let more = length-append (a.wire c).output (spelling d.puts.h.frame_max d.puts.h.sends) in
        let len : length (b.wire c).output ≡ length ((a.wire c).output ++ spelling d.puts.h.frame_max d.puts.h.sends) = ap length d.puts.output in
        let own : is_paused b c ≡ true = longer (length (a.wire c).output) (length (b.wire c).output) (omega (arith, more, len)) (subst (λ (k : ℕ). is_paused a k ≡ true) e is) in
        subst (λ (k : ℕ). is_paused b k ≡ true) (sym e) own

-- one slot is marked if its connection is paused, and otherwise loses its mark
pub full_marked : (w : World) (ps : List (Option Peer)) (i : ℕ) (p : Peer) (fs : List Bool) (x : Bool) → At ps i p → (x ≡ true → is_paused w p.connection ≡ true) → AreFull w ps fs → AreFull w ps (slice_set fs i x)
full_marked w ps i p fs x here is full = λ j m. elim (marked_now fs i j x m) [
  | inl e ↦ (p, subst (λ (k : ℕ). At ps k p) (sym e.0) here, is e.1)
  | inr n ↦ full j n.1
]

-- ---- what is due of a slot that is marked

pub full_ended : (w : World) (ps : List (Option Peer)) (i : ℕ) (fs : List Bool) → AreFull w ps fs → IsMarkedAt fs i → HasEnded w ps i
full_ended w ps i fs full m = λ q at.
    let was = full i m in
    let same : was.0 ≡ q = same_Some was.0 q (sym was.1 ∙ at) in
    subst (λ (r : Peer). is_gone w r.connection ≡ false) same (paused_not_gone w was.0.connection was.2)

-- no read is due of it
pub full_unread : (w : World) (ps : List (Option Peer)) (i : ℕ) (fs : List Bool) → AreFull w ps fs → IsMarkedAt fs i → read_of w (slice_index_or ps i None) ≡ []
full_unread w ps i fs full m =
    let was = full i m in
    ap (read_of w) was.1 ∙ ap (λ (x : Bool). if x then To_read was.0.socket ∷ [] else []) (paused_waits w was.0.connection was.2)

-- a slot that is marked is one of the marks
pub marked_within : (fs : List Bool) (i : ℕ) → IsMarkedAt fs i → i < length fs
marked_within [] i m = absurd (false≢true m)
marked_within (x ∷ xs) zero m = omega arith
marked_within (x ∷ xs) (suc i) m = let lt = marked_within xs i m in omega (arith, lt)
