-- Slots for which the wire answers itself that their sockets have nothing: what is asked of it so is what they are due.
use Rattle.serving.proofs.Names.{◌≡◌, ◌<◌, ◌≤◌, ◌+◌, ◌-◌, ◌∙◌, ◌++◌, ℕ, zero, suc, List, [], ◌∷◌, Bool, true, false, Option, Some, None, length, refl, sym, ap, subst, append-nil, append_assoc, drop, drop_all, flat_map, arith, slice_index_or, none-some, ◌||◌, World, is_awake, Ask, To_read, Traffic, At, AreQuiet, IsMarkedAt, Served, Serves, served, read_of, reads_due, Peer, Lacks, get_or-drop, if◌then◌else◌}
use Rattle.std.proofs.Math.Bool.{or-false}
use Rattle.std.proofs.Common.{drop-drop}
use Rattle.serving.specs.Wire.{AllWait, least_room}
use Rattle.serving.proofs.Deeds.{heard_nothing}
use Rattle.serving.proofs.Onward.{serves_not, serves_then}
use Rattle.serving.proofs.Others.{due_on, later_on}

-- The reads that the first n of these slots are due were asked, and nothing was done.
pub record Waited (L : Lacks) (w : World) (all : List (Option Peer)) (n : ℕ) (ps : List (Option Peer)) (traffic now : Traffic) : Type 0 where
  pub asked : List Ask
  pub serves : Serves L (served w all traffic) asked false (served w all now)
  pub due : flat_map (read_of w) ps ≡ asked ++ flat_map (read_of w) (drop n ps)

read_awake : (w : World) (p : Peer) → is_awake w p.connection ≡ true → read_of w (Some p) ≡ To_read p.socket ∷ []
read_awake w p e = ap (λ (x : Bool). if x then To_read p.socket ∷ [] else []) e

none_waited : {L : Lacks} (w : World) (all : List (Option Peer)) (n : ℕ) (ps : List (Option Peer)) (traffic now : Traffic) → now ≡ traffic → flat_map (read_of w) ps ≡ flat_map (read_of w) (drop n ps) → Waited L w all n ps traffic now
none_waited {L = L} w all n ps traffic now same due = record {
  asked = [];
  serves = subst (λ (t : Traffic). Serves L (served w all traffic) [] false (served w all t)) (sym same) (serves_not (served w all traffic));
  due = due;
}

all_waited : {L : Lacks} (w : World) (all : List (Option Peer)) (n : ℕ) (ps : List (Option Peer)) (traffic now : Traffic)
    → ((j : ℕ) (p : Peer) → j < n → At ps j p → ((i : ℕ) × At all i p) × (is_awake w p.connection ≡ true)) → AllWait n ps traffic now → Waited L w all n ps traffic now
all_waited w all zero ps traffic now each same = none_waited w all zero ps traffic now same refl
all_waited w all (suc n) [] traffic now each same = none_waited w all (suc n) [] traffic now same refl
all_waited {L = L} w all (suc n) (None ∷ ps) traffic now each rest =
    let behind : Waited L w all n ps traffic now = all_waited w all n ps traffic now (λ j q lt at. each (suc j) q (omega (arith, lt)) at) rest in
    record { asked = behind.asked; serves = behind.serves; due = behind.due }
all_waited {L = L} w all (suc n) (Some p ∷ ps) traffic now each (mid, tells, rest) =
    let here = each 0 p (omega arith) refl in
    let behind : Waited L w all n ps mid now = all_waited w all n ps mid now (λ j q lt at. each (suc j) q (omega (arith, lt)) at) rest in
    let one : Serves L (served w all traffic) (To_read p.socket ∷ []) false (served w all mid) = heard_nothing w all here.0.0 p least_room traffic mid (omega arith, omega arith) here.0.1 tells in
    record {
      asked = To_read p.socket ∷ behind.asked;
      serves = serves_then (served w all traffic) (served w all mid) (served w all now) (To_read p.socket ∷ []) behind.asked false false one behind.serves;
      due = ap (λ (z : List Ask). z ++ flat_map (read_of w) ps) (read_awake w p here.1) ∙ ap (λ (z : List Ask). To_read p.socket ∷ z) behind.due;
    }

-- marked slots are awake, so that each of them is due a read
pub quiet_waited : {L : Lacks} (w : World) (all : List (Option Peer)) (marks : List Bool) (i n : ℕ) (traffic now : Traffic)
    → AreQuiet w all marks → ((k : ℕ) → i ≤ k → k < i + n → IsMarkedAt marks k) → AllWait n (drop i all) traffic now → Waited L w all n (drop i all) traffic now
quiet_waited w all marks i n traffic now quiet marked waits = all_waited w all n (drop i all) traffic now (λ j p lt at.
    let here = sym (get_or-drop i all j None) ∙ at in
    ((i + j, here), (quiet (i + j) p here (marked (i + j) (omega arith) (omega (arith, lt)))).awake)) waits

-- ---- in a pass over all slots

-- The slots up to j, which the wire answered for, are behind a pass that was at i.
pub record Passes (L : Lacks) (start : Served) (w : World) (now : List (Option Peer)) (traffic : Traffic) (j : ℕ) (acted : Bool) : Type 0 where
  pub later : drop j now ≡ drop j start.peers
  pub asked : List Ask
  pub serves : Serves L start asked acted (served w now traffic)
  pub so_far : asked ++ flat_map (read_of w) (drop j start.peers) ≡ reads_due start

pub passes_none : {L : Lacks} (w : World) (ps : List (Option Peer)) (traffic : Traffic) → Passes L (served w ps traffic) w ps traffic 0 false
passes_none w ps traffic = record { later = refl; asked = []; serves = serves_not (served w ps traffic); so_far = refl }

pub passes_on : {L : Lacks} (start : Served) (w : World) (now : List (Option Peer)) (marks : List Bool) (i j : ℕ) (traffic after : Traffic) (acted : Bool)
    → i ≤ j → AreQuiet w now marks → ((k : ℕ) → i ≤ k → k < j → IsMarkedAt marks k) → AllWait (j - i) (drop i now) traffic after
    → Passes L start w now traffic i acted → Passes L start w now after j acted
passes_on {L = L} start w now marks i j traffic after acted le quiet marked waits p =
    let n = j - i in
    let is : i + n ≡ j = omega (arith, le) in
    let one : Waited L w now n (drop i now) traffic after = quiet_waited w now marks i n traffic after quiet (λ k from lt. marked k from (omega (arith, lt, le))) waits in
    let behind : (ps : List (Option Peer)) → drop n (drop i ps) ≡ drop j ps = λ ps. drop-drop n i ps ∙ ap (λ (k : ℕ). drop k ps) is in
    let due : flat_map (read_of w) (drop i start.peers) ≡ one.asked ++ flat_map (read_of w) (drop j start.peers) =
    sym (ap (flat_map (read_of w)) p.later) ∙ one.due ∙ ap (λ (z : List Ask). one.asked ++ z) (ap (flat_map (read_of w)) (behind now ∙ later)) in
    record {
      later = later;
      asked = p.asked ++ one.asked;
      serves = subst (λ (x : Bool). Serves L start (p.asked ++ one.asked) x (served w now after)) (or-false acted)
          (serves_then start (served w now traffic) (served w now after) p.asked one.asked acted false p.serves one.serves);
      so_far = append_assoc p.asked one.asked (flat_map (read_of w) (drop j start.peers)) ∙ ap (λ (z : List Ask). p.asked ++ z) (sym due) ∙ p.so_far;
    }
  where
    later : drop j now ≡ drop j start.peers
    later =
        let is : i + (j - i) ≡ j = omega (arith, le) in
        subst (λ (k : ℕ). drop k now ≡ drop k start.peers) is (sym (drop-drop (j - i) i now) ∙ ap (drop (j - i)) p.later ∙ drop-drop (j - i) i start.peers)

-- one slot was looked at
pub passes_read : {L : Lacks} (start mid next : Served) (j : ℕ) (acted done : Bool)
    → Serves L mid (read_of mid.world (slice_index_or mid.peers j None)) done next → drop (j + 1) next.peers ≡ drop (j + 1) mid.peers
    → flat_map (read_of next.world) (drop (j + 1) mid.peers) ≡ flat_map (read_of mid.world) (drop (j + 1) mid.peers)
    → Passes L start mid.world mid.peers mid.traffic j acted → Passes L start next.world next.peers next.traffic (j + 1) (acted || done)
passes_read start mid next j acted done one later due p = record {
  later = later ∙ later_on start.peers mid.peers j p.later;
  asked = p.asked ++ read_of mid.world (slice_index_or mid.peers j None);
  serves = serves_then start mid next _ _ _ _ p.serves one;
  so_far = due_on (read_of mid.world) (read_of next.world) refl start.peers mid.peers j p.asked (reads_due start) p.later due p.so_far;
}

-- behind the last slot nothing is due
pub passes_all : {L : Lacks} (start : Served) (w : World) (now : List (Option Peer)) (traffic : Traffic) (j : ℕ) (acted : Bool) → length start.peers ≤ j
    → Passes L start w now traffic j acted → Serves L start (reads_due start) acted (served w now traffic)
passes_all {L = L} start w now traffic j acted le p =
    let none : flat_map (read_of w) (drop j start.peers) ≡ [] = ap (flat_map (read_of w)) (drop_all j start.peers le) in
    let asked : p.asked ≡ reads_due start = sym (append-nil p.asked) ∙ ap (λ (z : List Ask). p.asked ++ z) (sym none) ∙ p.so_far in
    subst (λ (z : List Ask). Serves L start z acted (served w now traffic)) asked p.serves

-- of free slots nothing is asked
pub free_wait : (n : ℕ) (ps : List (Option Peer)) (traffic : Traffic) → ((i : ℕ) → i < n → slice_index_or ps i None ≡ None) → AllWait n ps traffic traffic
free_wait zero ps traffic free = refl
free_wait (suc n) [] traffic free = refl
free_wait (suc n) (None ∷ ps) traffic free = free_wait n ps traffic (λ i lt. free (suc i) (omega (arith, lt)))
free_wait (suc n) (Some p ∷ ps) traffic free = absurd (none-some p (sym (free 0 (omega arith))))
