-- A slot that is marked is quiet, and what comes for other connections leaves it so.
use Rattle.serving.proofs.Names.{◌≡◌, ◌≢◌, ◌≤◌, ◌+◌, ◌⊎◌, ℕ, suc, zero, List, [], ◌∷◌, Bool, true, false, Option, Some, None, length, refl, sym, ap, subst, ◌∙◌, inl, inr, slice_set, slice_index_or, arith, false≢true, le-ltb, ltb-false, same_Some, if◌then◌else◌, World, Same, is_over, is_gone, is_paused, has_output, To_write, At, Filled, OthersStay, IsFit, StaysOrFrees, IsQuiet, IsMarkedAt, AreQuiet, AreInSlots, IsOther, Wakes, HasEnded, write_of, Peer, get_or-set_other}
use Rattle.std.proofs.Common.{not}
use Rattle.std.proofs.lemmas.Bool.{and_from, and_left, not_from_false}
use Rattle.serving.proofs.Turning.{awake_stands, output_stands}
use Rattle.serving.proofs.Others.{StaysFor, others_stay, same_stays, output_stays, awake_stays, gone_stays}
use Rattle.serving.proofs.Fits.{freed_at, fit_on}

-- ---- marks

-- what is marked after one mark was set to x is that one, with x, or another that was marked
pub marked_now : (marks : List Bool) (i j : ℕ) (x : Bool) → IsMarkedAt (slice_set marks i x) j → ((j ≡ i) × (x ≡ true)) ⊎ ((j ≢ i) × IsMarkedAt marks j)
marked_now [] i j x m = absurd (false≢true m)
marked_now (y ∷ ys) zero zero x m = inl (refl, m)
marked_now (y ∷ ys) zero (suc j) x m = inr (λ e. omega (arith, e), m)
marked_now (y ∷ ys) (suc i) zero x m = inr (λ e. omega (arith, e), m)
marked_now (y ∷ ys) (suc i) (suc j) x m = elim (marked_now ys i j x m) [
  | inl e ↦ inl (ap suc e.0, e.1)
  | inr n ↦ inr (λ e. n.0 (omega (arith, e)), n.1)
]

-- what is marked after one mark was taken away was marked, and is another
pub still_marked : (marks : List Bool) (i j : ℕ) → IsMarkedAt (slice_set marks i false) j → (j ≢ i) × IsMarkedAt marks j
still_marked marks i j m = elim (marked_now marks i j false m) [ inl e ↦ absurd (false≢true e.1) | inr n ↦ n ]

-- where a slot has no mark, what is marked is another
pub other_marked : (marks : List Bool) (i : ℕ) → slice_index_or marks i false ≡ false → (j : ℕ) → IsMarkedAt marks j → (j ≢ i) × IsMarkedAt marks j
other_marked marks i none j m = (λ e. false≢true (sym none ∙ ap (λ (k : ℕ). slice_index_or marks k false) (sym e) ∙ m), m)

-- with no slot nothing is said
no_one_at : (ps : List (Option Peer)) (i : ℕ) (p : Peer) → ps ≡ [] → At ps i p → ⊥
no_one_at [] i p e at = cc at
no_one_at (o ∷ ps) i p e at = cc e

pub none_quiet : (w : World) (ps : List (Option Peer)) (marks : List Bool) → ps ≡ [] → AreQuiet w ps marks
none_quiet w ps marks none = λ i p at m. absurd (no_one_at ps i p none at)

pub none_ended : (w : World) (ps : List (Option Peer)) → ps ≡ [] → (i : ℕ) → HasEnded w ps i
none_ended w ps none i = λ p at. absurd (no_one_at ps i p none at)

-- ---- one connection

quiet_stays : (a b : World) (c : ℕ) → StaysFor c a b → IsQuiet a c → IsQuiet b c
quiet_stays a b c s q = record { awake = awake_stays a b c s ∙ q.awake; silent = output_stays a b c s ∙ q.silent }

pub stands_not_gone : (w : World) (c : ℕ) → is_over w c ≡ false → is_gone w c ≡ false
stands_not_gone w c e = and_left (is_over w c) (not (has_output w c)) e

pub is_gone_silent : (w : World) (c : ℕ) → is_over w c ≡ true → has_output w c ≡ false → is_gone w c ≡ true
is_gone_silent w c e f = and_from (is_over w c) (not (has_output w c)) e (not_from_false (has_output w c) f)

quiet_not_gone : (w : World) (c : ℕ) → IsQuiet w c → is_gone w c ≡ false
quiet_not_gone w c q = stands_not_gone w c (awake_stands w c q.awake)

-- with no output it is not paused
pub not_paused : (w : World) (c : ℕ) → has_output w c ≡ false → is_paused w c ≡ false
not_paused w c e =
    let none : length (w.wire c).output ≤ 0 = ltb-false 0 (length (w.wire c).output) e in
    le-ltb 1048575 (length (w.wire c).output) (omega (arith, none))

pub is_quiet : (w : World) (c : ℕ) → is_over w c ≡ false → has_output w c ≡ false → IsQuiet w c
is_quiet w c stands silent = record {
  awake = and_from (not (is_over w c)) (not (is_paused w c)) (not_from_false (is_over w c) stands) (not_from_false (is_paused w c) (not_paused w c silent));
  silent = silent;
}

-- ---- the slots

pub at_before : (ps qs : List (Option Peer)) (i : ℕ) → StaysOrFrees ps i qs → (j : ℕ) (q : Peer) → At qs j q → At ps j q
at_before ps qs i (inl e) j q at = subst (λ (z : List (Option Peer)). At z j q) e at
at_before ps qs i (inr e) j q at = freed_at ps i j q (subst (λ (z : List (Option Peer)). At z j q) e at)

pub still_quiet : (a b : World) (ps qs : List (Option Peer)) (ms ns : List Bool) → AreQuiet a ps ms
    → ((j : ℕ) (q : Peer) → At qs j q → IsMarkedAt ns j → At ps j q × IsMarkedAt ms j × StaysFor q.connection a b) → AreQuiet b qs ns
still_quiet a b ps qs ms ns quiet from = λ j q at m. let f = from j q at m in quiet_stays a b q.connection f.2 (quiet j q f.0 f.1)

-- nothing happened
pub quiet_idle : (a b : World) (ps qs : List (Option Peer)) (i : ℕ) (ms ns : List Bool) → Same a b → StaysOrFrees ps i qs → ((j : ℕ) → slice_index_or ns j false ≡ slice_index_or ms j false) → AreQuiet a ps ms → AreQuiet b qs ns
quiet_idle a b ps qs i ms ns same slots marks quiet = still_quiet a b ps qs ms ns quiet (λ j q at m. (at_before ps qs i slots j q at, sym (marks j) ∙ m, same_stays a b same q.connection))

-- something happened for the connection of one slot, which is not marked now
pub in_slots_idle : (a b : World) (ps : List (Option Peer)) (ms : List Bool) → Same a b → AreInSlots a ps ms → AreInSlots b ps ms
in_slots_idle a b ps ms same k = record { fit = fit_on a b ps same.given k.fit; quiet = quiet_idle a b ps ps 0 ms ms same (inl refl) (λ j. refl) k.quiet }

pub quiet_apart : (a b : World) (ps qs : List (Option Peer)) (i : ℕ) (p : Peer) (ms ns : List Bool) → IsFit a ps → At ps i p → OthersStay p.connection a b → StaysOrFrees ps i qs
    → ((j : ℕ) → IsMarkedAt ns j → (j ≢ i) × IsMarkedAt ms j) → AreQuiet a ps ms → AreQuiet b qs ns
quiet_apart a b ps qs i p ms ns fit here distinct slots marks quiet = still_quiet a b ps qs ms ns quiet (λ j q at m.
    let before : At ps j q = at_before ps qs i slots j q at in
    let old = marks j m in
    (before, old.1, others_stay p.connection a b distinct q.connection (λ e. old.0 (fit.distinct j i q p before here e))))

-- a slot was filled by a connection that was opened
pub quiet_met : (a b : World) (ps qs : List (Option Peer)) (i : ℕ) (p : Peer) (ms : List Bool) → IsFit a ps → OthersStay (a.given + 1) a b → Filled ps i p qs → AreQuiet a ps ms → AreQuiet b qs (slice_set ms i false)
quiet_met a b ps qs i p ms fit distinct filled quiet = still_quiet a b ps qs ms (slice_set ms i false) quiet (λ j q at m.
    let old = still_marked ms i j m in
    let before : At ps j q = sym (filled.others j old.0) ∙ at in
    let given = fit.given j q before in
    (before, old.1, others_stay (a.given + 1) a b distinct q.connection (λ e. omega (arith, given, e))))

-- something was delivered to connection c, and its slot is not marked now
pub quiet_woken : (a b : World) (ps : List (Option Peer)) (c : ℕ) (ms ns : List Bool) → OthersStay c a b → Wakes c ps ms ns → AreQuiet a ps ms → AreQuiet b ps ns
quiet_woken a b ps c ms ns distinct wakes quiet = still_quiet a b ps ps ms ns quiet (λ j q at m. let w = (wakes j).0 m in (at, w.0, others_stay c a b distinct q.connection (w.1 q at)))

-- the slot of connection c has lost its mark
pub woken : (w : World) (ps : List (Option Peer)) (i : ℕ) (p : Peer) (c : ℕ) (ms : List Bool) → IsFit w ps → At ps i p → p.connection ≡ c → Wakes c ps ms (slice_set ms i false)
woken w ps i p c ms fit here is = λ j. (
  λ m. let old = still_marked ms i j m in (old.1, λ q at e. old.0 (fit.distinct j i q p at here (e ∙ sym is))),
  λ was. get_or-set_other ms i j false false (λ e. was.1 p (subst (λ (k : ℕ). At ps k p) (sym e) here) is) ∙ was.0,
)

-- no slot holds it
pub none_woken : (ps : List (Option Peer)) (c : ℕ) (ms : List Bool) → ((i : ℕ) → IsOther c ps i) → Wakes c ps ms ms
none_woken ps c ms others = λ j. (λ m. (m, others j), λ was. was.0)

-- a slot is marked whose connection is quiet
pub quiet_marked : (w : World) (ps : List (Option Peer)) (i : ℕ) (p : Peer) (ms : List Bool) → At ps i p → IsQuiet w p.connection → AreQuiet w ps ms → AreQuiet w ps (slice_set ms i true)
quiet_marked w ps i p ms here is quiet = λ j q at m. elim (marked_now ms i j true m) [
  | inl e ↦ let same : q ≡ p = same_Some q p (sym at ∙ ap (λ (k : ℕ). slice_index_or ps k None) e.0 ∙ here) in subst (λ (x : Peer). IsQuiet w x.connection) (sym same) is
  | inr n ↦ quiet j q at n.1
]

-- a slot is marked that is free
pub quiet_free : (w : World) (ps : List (Option Peer)) (i : ℕ) (ms : List Bool) → slice_index_or ps i None ≡ None → AreQuiet w ps ms → AreQuiet w ps (slice_set ms i true)
quiet_free w ps i ms free quiet = λ j q at m. elim (marked_now ms i j true m) [
  | inl e ↦ let none : None ≡ Some q = sym free ∙ ap (λ (k : ℕ). slice_index_or ps k None) (sym e.0) ∙ at in absurd (cc none)
  | inr n ↦ quiet j q at n.1
]

pub quiet_freed : (w : World) (ps : List (Option Peer)) (i : ℕ) (ms : List Bool) → AreQuiet w ps ms → AreQuiet w (slice_set ps i None) ms
quiet_freed w ps i ms quiet = λ j q at m. quiet j q (freed_at ps i j q at) m

-- ---- what is due of a slot that is marked

-- it is not to be let go
pub marked_ended : (w : World) (ps : List (Option Peer)) (i : ℕ) (ms : List Bool) → AreQuiet w ps ms → IsMarkedAt ms i → HasEnded w ps i
marked_ended w ps i ms quiet m = λ p at. quiet_not_gone w p.connection (quiet i p at m)

-- no write is due of it
pub marked_silent : (w : World) (ps : List (Option Peer)) (i : ℕ) (ms : List Bool) → AreQuiet w ps ms → IsMarkedAt ms i → write_of w (slice_index_or ps i None) ≡ []
marked_silent w ps i ms quiet m = go (slice_index_or ps i None) (λ p at. (quiet i p at m).silent)
  where
    go : (o : Option Peer) → ((p : Peer) → o ≡ Some p → has_output w p.connection ≡ false) → write_of w o ≡ []
    go None f = refl
    go (Some p) f = ap (λ (x : Bool). if x then To_write p.socket (w.wire p.connection).output ∷ [] else []) (f p refl)

-- one write is due of a slot whose connection has output
pub output_due : (w : World) (ps : List (Option Peer)) (i : ℕ) (p : Peer) → At ps i p → has_output w p.connection ≡ true → write_of w (slice_index_or ps i None) ≡ To_write p.socket (w.wire p.connection).output ∷ []
output_due w ps i p at e = ap (write_of w) at ∙ ap (λ (x : Bool). if x then To_write p.socket (w.wire p.connection).output ∷ [] else []) e

-- a slot that had ended has ended, where something happened for another
pub ended_apart : (a b : World) (ps qs : List (Option Peer)) (i : ℕ) (p : Peer) → IsFit a ps → At ps i p → OthersStay p.connection a b → StaysOrFrees ps i qs → (j : ℕ) → j ≢ i → HasEnded a ps j → HasEnded b qs j
ended_apart a b ps qs i p fit here distinct slots j ne ended = λ q at.
    let before : At ps j q = at_before ps qs i slots j q at in
    gone_stays a b q.connection (others_stay p.connection a b distinct q.connection (λ e. ne (fit.distinct j i q p before here e))) ∙ ended q before

pub ended_before : (w : World) (ps qs : List (Option Peer)) (i : ℕ) → StaysOrFrees ps i qs → (j : ℕ) → HasEnded w ps j → HasEnded w qs j
ended_before w ps qs i slots j ended = λ q at. ended q (at_before ps qs i slots j q at)

-- the connection of a slot that has output is not gone
pub with_output_stands : (w : World) (ps : List (Option Peer)) (i : ℕ) (p q : Peer) → At ps i p → At ps i q → has_output w p.connection ≡ true → is_gone w q.connection ≡ false
with_output_stands w ps i p q here there output =
    let same : p ≡ q = same_Some p q (sym here ∙ there) in
    subst (λ (r : Peer). is_gone w r.connection ≡ false) same (output_stands w p.connection output)
