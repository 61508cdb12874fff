-- Slots for which the wire answers itself that their sockets take nothing: what is asked of it so is what they are due.
use Rattle.serving.proofs.Names.{◌≡◌, ◌≤◌, ◌<◌, ◌+◌, ◌-◌, ◌⊎◌, ◌++◌, ◌∙◌, ℕ, suc, zero, List, [], ◌∷◌, Bool, false, Option, Some, None, length, drop, flat_map, refl, sym, ap, subst, inl, inr, arith, cases_lt, append_assoc, lt-ltb, ltb-false, nat_lt, World, Ask, To_write, At, Served, Serves, served, Traffic, AreQuiet, IsMarkedAt, IsNextLoud, HasEnded, read_of, write_of, Peer, Lacks, get_or-drop, if◌then◌else◌}
use Rattle.std.proofs.Common.{drop-drop}
use Rattle.serving.specs.Rounds.{outputs}
use Rattle.serving.specs.Quiet.{AreFull}
use Rattle.serving.specs.Wire.{NoneTakes, TakesNothing}
use Rattle.serving.proofs.Deeds.{gave_nothing}
use Rattle.serving.proofs.Onward.{serves_not, serves_then}
use Rattle.serving.proofs.Quieting.{marked_ended}
use Rattle.serving.proofs.Fullness.{full_ended, full_unread}
use Rattle.serving.proofs.Loudness.{PassedBy, due_to, later_to}
use Rattle.serving.proofs.Waiting.{Passes}

-- ---- writes

-- a write that is due of this slot was asked, and its socket took nothing
record Refused (L : Lacks) (w : World) (all : List (Option Peer)) (o : Option Peer) (traffic now : Traffic) : Type 0 where
  pub asked : List Ask
  pub serves : Serves L (served w all traffic) asked false (served w all now)
  pub due : write_of w o ≡ asked

refused : {L : Lacks} (w : World) (all : List (Option Peer)) (i : ℕ) (p : Peer) (traffic now : Traffic) → At all i p → (out : List ℕ) → (w.wire p.connection).output ≡ out → TakesNothing p.socket out traffic now → Refused L w all (Some p) traffic now
refused {L = L} w all i p traffic now here [] is same = record {
  asked = [];
  serves = subst (λ (t : Traffic). Serves L (served w all traffic) [] false (served w all t)) (sym same) (serves_not (served w all traffic));
  due = ap (λ (bytes : List ℕ). if nat_lt 0 (length bytes) then To_write p.socket bytes ∷ [] else []) is;
}
refused {L = L} w all i p traffic now here (byte ∷ bytes) is tells = record {
  asked = To_write p.socket (w.wire p.connection).output ∷ [];
  serves = gave_nothing w all i p traffic now here (rw is tells);
  due = ap (λ (x : Bool). if x then To_write p.socket (w.wire p.connection).output ∷ [] else [])
      (ap (λ (out : List ℕ). nat_lt 0 (length out)) is ∙ lt-ltb 0 (length (byte ∷ bytes)) (omega arith));
}

-- The writes that the first n of these slots are due were asked.
record AllRefused (L : Lacks) (w : World) (all : List (Option Peer)) (n : ℕ) (ps : List (Option Peer)) (traffic now : Traffic) : Type 0 where
  pub asked : List Ask
  pub serves : Serves L (served w all traffic) asked false (served w all now)
  pub due : flat_map (write_of w) ps ≡ asked ++ flat_map (write_of w) (drop n ps)

nothing_asked : {L : Lacks} (w : World) (all : List (Option Peer)) (n : ℕ) (ps : List (Option Peer)) (traffic now : Traffic) → now ≡ traffic → flat_map (write_of w) ps ≡ flat_map (write_of w) (drop n ps) → AllRefused L w all n ps traffic now
nothing_asked {L = L} w all n ps traffic now same due = record {
  asked = [];
  serves = subst (λ (t : Traffic). Serves L (served w all traffic) [] false (served w all t)) (sym same) (serves_not (served w all traffic));
  due = due;
}

all_refused : {L : Lacks} (w : World) (all : List (Option Peer)) (n : ℕ) (ps : List (Option Peer)) (traffic now : Traffic)
    → ((j : ℕ) (p : Peer) → At ps j p → (i : ℕ) × At all i p) → NoneTakes (outputs w) n ps traffic now → AllRefused L w all n ps traffic now
all_refused w all zero ps traffic now each same = nothing_asked w all zero ps traffic now same refl
all_refused w all (suc n) [] traffic now each same = nothing_asked w all (suc n) [] traffic now same refl
all_refused w all (suc n) (None ∷ ps) traffic now each rest =
    let behind = all_refused w all n ps traffic now (λ j q at. each (suc j) q at) rest in
    record { asked = behind.asked; serves = behind.serves; due = behind.due }
all_refused {L = L} w all (suc n) (Some p ∷ ps) traffic now each (mid, one, rest) =
    let at = each 0 p refl in
    let first : Refused L w all (Some p) traffic mid = refused w all at.0 p traffic mid at.1 (w.wire p.connection).output refl one in
    let behind : AllRefused L w all n ps mid now = all_refused w all n ps mid now (λ j q there. each (suc j) q there) rest in
    record {
      asked = first.asked ++ behind.asked;
      serves = serves_then (served w all traffic) (served w all mid) (served w all now) first.asked behind.asked false false first.serves behind.serves;
      due = ap (λ (z : List Ask). z ++ flat_map (write_of w) ps) first.due ∙ ap (λ (z : List Ask). first.asked ++ z) behind.due
          ∙ sym (append_assoc first.asked behind.asked (flat_map (write_of w) (drop n ps)));
    }

-- The writes that are due of slots i to j were asked, and none of their sockets took anything.
pub record PassesWrites (L : Lacks) (w : World) (ps : List (Option Peer)) (i j : ℕ) (traffic now : Traffic) : Type 0 where
  pub asked : List Ask
  pub serves : Serves L (served w ps traffic) asked false (served w ps now)
  pub due : flat_map (write_of w) (drop i ps) ≡ asked ++ flat_map (write_of w) (drop j ps)

pub passes_writes : {L : Lacks} (w : World) (ps : List (Option Peer)) (i j : ℕ) (traffic now : Traffic) → i ≤ j → NoneTakes (outputs w) (j - i) (drop i ps) traffic now → PassesWrites L w ps i j traffic now
passes_writes {L = L} w ps i j traffic now le takes =
    let n = j - i in
    let is : i + n ≡ j = omega (arith, le) in
    let all : AllRefused L w ps n (drop i ps) traffic now = all_refused w ps n (drop i ps) traffic now (λ k p at. (i + k, sym (get_or-drop i ps k None) ∙ at)) takes in
    record {
      asked = all.asked;
      serves = all.serves;
      due = all.due ∙ ap (λ (z : List Ask). all.asked ++ z) (ap (flat_map (write_of w)) (drop-drop n i ps ∙ ap (λ (k : ℕ). drop k ps) is));
    }

-- ---- of a run of slots none takes anything

none_then : (output : ℕ → List ℕ) (n m k : ℕ) (ps : List (Option Peer)) (a b c : Traffic) → k ≡ n + m → NoneTakes output n ps a b → NoneTakes output m (drop n ps) b c → NoneTakes output k ps a c
none_then output zero m k ps a b c is p q =
    let same : k ≡ m = omega (arith, is) in
    subst (λ (x : ℕ). NoneTakes output x ps a c) (sym same) (subst (λ (t : Traffic). NoneTakes output m ps t c) p q)
none_then output (suc n) m zero ps a b c is p q = absurd (omega (arith, is))
none_then output (suc n) zero (suc k) [] a b c is p q = q ∙ p
none_then output (suc n) (suc m) (suc k) [] a b c is p q = q ∙ p
none_then output (suc n) m (suc k) (None ∷ ps) a b c is p q = none_then output n m k ps a b c (omega (arith, is)) p q
none_then output (suc n) m (suc k) (Some r ∷ ps) a b c is (mid, one, rest) q = (mid, one, none_then output n m k ps mid b c (omega (arith, is)) rest q)

none_quiet : (output : ℕ → List ℕ) (n : ℕ) (ps : List (Option Peer)) (a : Traffic) → ((j : ℕ) (p : Peer) → j < n → At ps j p → output p.connection ≡ []) → NoneTakes output n ps a a
none_quiet output zero ps a each = refl
none_quiet output (suc n) [] a each = refl
none_quiet output (suc n) (None ∷ ps) a each = none_quiet output n ps a (λ j p lt at. each (suc j) p (omega (arith, lt)) at)
none_quiet output (suc n) (Some p ∷ ps) a each =
    (a, subst (λ (bytes : List ℕ). TakesNothing p.socket bytes a a) (sym (each 0 p (omega arith) refl)) refl, none_quiet output n ps a (λ j q lt at. each (suc j) q (omega (arith, lt)) at))

silent_empty : (bytes : List ℕ) → nat_lt 0 (length bytes) ≡ false → bytes ≡ []
silent_empty [] e = refl
silent_empty (byte ∷ bytes) e = let none : length (byte ∷ bytes) ≤ 0 = ltb-false 0 (length (byte ∷ bytes)) e in absurd (omega (arith, none))

-- quiet slots have no output
quiet_run : (w : World) (ps : List (Option Peer)) (ms : List Bool) (i j : ℕ) (traffic : Traffic) → AreQuiet w ps ms → IsNextLoud ms i j → NoneTakes (outputs w) (j - i) (drop i ps) traffic traffic
quiet_run w ps ms i j traffic quiet next = none_quiet (outputs w) (j - i) (drop i ps) traffic (λ k p lt at.
    let here = sym (get_or-drop i ps k None) ∙ at in
    let least = next.least in
    silent_empty (outputs w p.connection) (quiet (i + k) p here (next.before (i + k) (omega arith) (omega (arith, lt, least)))).silent)

-- slots that are quiet, then slots of which none takes anything, then again quiet ones
pub passes_run : (w : World) (ps : List (Option Peer)) (ms : List Bool) (from first to last : ℕ) (traffic now : Traffic) → AreQuiet w ps ms
    → IsNextLoud ms from first → first ≤ to → NoneTakes (outputs w) (to - first) (drop first ps) traffic now → IsNextLoud ms to last → NoneTakes (outputs w) (last - from) (drop from ps) traffic now
passes_run w ps ms from first to last traffic now quiet before le takes after =
    let out = outputs w in
    let least = before.least in
    let most = after.least in
    let behind : drop (first - from) (drop from ps) ≡ drop first ps = let is : from + (first - from) ≡ first = omega (arith, least) in drop-drop (first - from) from ps ∙ ap (λ (k : ℕ). drop k ps) is in
    let further : drop (to - from) (drop from ps) ≡ drop to ps = let is : from + (to - from) ≡ to = omega (arith, least, le) in drop-drop (to - from) from ps ∙ ap (λ (k : ℕ). drop k ps) is in
    let one : NoneTakes out (to - from) (drop from ps) traffic now = none_then out (first - from) (to - first) (to - from) (drop from ps) traffic traffic now (omega (arith, least, le)) (quiet_run w ps ms from first traffic quiet before)
    (subst (λ (qs : List (Option Peer)). NoneTakes out (to - first) qs traffic now) (sym behind) takes) in
    none_then out (to - from) (last - to) (last - from) (drop from ps) traffic now now (omega (arith, least, le, most)) one
    (subst (λ (qs : List (Option Peer)). NoneTakes out (last - to) qs now now) (sym further) (quiet_run w ps ms to last now quiet after))

-- none of them is to be let go
pub passes_ended : (w : World) (ps : List (Option Peer)) (ms fs : List Bool) (from first to end last : ℕ) → AreQuiet w ps ms → AreFull w ps fs
    → IsNextLoud ms from first → to ≤ end → ((k : ℕ) → first ≤ k → k < end → IsMarkedAt ms k ⊎ IsMarkedAt fs k) → IsNextLoud ms to last → (k : ℕ) → from ≤ k → k < last → HasEnded w ps k
passes_ended w ps ms fs from first to end last quiet full before most marked after k ge lt = go (cases_lt k first) (cases_lt k to)
  where
    either : IsMarkedAt ms k ⊎ IsMarkedAt fs k → HasEnded w ps k
    either (inl m) = marked_ended w ps k ms quiet m
    either (inr m) = full_ended w ps k fs full m

    go : (k < first) ⊎ (first ≤ k) → (k < to) ⊎ (to ≤ k) → HasEnded w ps k
    go (inl less) near = marked_ended w ps k ms quiet (before.before k ge less)
    go (inr from_first) (inl near) = either (marked k from_first (omega (arith, near, most)))
    go (inr from_first) (inr far) = marked_ended w ps k ms quiet (after.before k far lt)

-- a pass over all slots goes on behind them
pub passed_on : {L : Lacks} (w : World) (start now : List (Option Peer)) (i j : ℕ) (asked due : List Ask) (traffic after : Traffic) → i ≤ j → (p : PassesWrites L w now i j traffic after) → drop i now ≡ drop i start
    → asked ++ flat_map (write_of w) (drop i start) ≡ due → PassedBy w start now j (asked ++ p.asked) due
passed_on w start now i j asked due traffic after le p later so_far =
    let behind : drop j now ≡ drop j start = later_to start now i j (j - i) (omega (arith, le)) later in
    record {
      later = behind;
      so_far = append_assoc asked p.asked (flat_map (write_of w) (drop j start))
          ∙ ap (λ (z : List Ask). asked ++ z) (ap (λ (z : List Ask). p.asked ++ z) (sym (ap (flat_map (write_of w)) behind)) ∙ sym p.due ∙ ap (flat_map (write_of w)) later) ∙ so_far;
    }

-- ---- reads

-- a pass over all slots goes on behind full ones
pub passes_full : {L : Lacks} (start : Served) (w : World) (now : List (Option Peer)) (fs : List Bool) (i j : ℕ) (traffic : Traffic) (acted : Bool) → AreFull w now fs → IsNextLoud fs i j → Passes L start w now traffic i acted
    → Passes L start w now traffic j acted
passes_full start w now fs i j traffic acted full next p =
    let least = next.least in
    let n : j ≡ i + (j - i) = omega (arith, least) in
    let behind : drop j now ≡ drop j start.peers = later_to start.peers now i j (j - i) n p.later in
    let unread : flat_map (read_of w) (drop i now) ≡ flat_map (read_of w) (drop j now) = due_to (read_of w) refl now i j (j - i) n (λ k ge lt. full_unread w now k fs full (next.before k ge lt)) in
    record {
      later = behind;
      asked = p.asked;
      serves = p.serves;
      so_far = ap (λ (z : List Ask). p.asked ++ z) (sym (ap (flat_map (read_of w)) behind) ∙ sym unread ∙ ap (flat_map (read_of w)) p.later) ∙ p.so_far;
    }
