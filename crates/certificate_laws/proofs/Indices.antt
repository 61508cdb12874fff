-- The patterns at places of the tracked list.
use Rattle.certificate_laws.proofs.Names.{◌≡◌, ℕ, zero, suc, ◌<◌, List, [], ◌∷◌, length, Option, Some, None, refl, sym, ap, subst, ◌∙◌, inl, inr, arith, AllPairs, slice_index_or, flat_map, AllByRecursion, cons_option, slice_get, Topology, IsIn, Guarantee, Tracked, as_topic, same_tracked, IsTrackedList, each_once, keys_of, Form, Whole, Sliced, Excepting, at_indices, AreChosen}
use Rattle.std.proofs.Common.{◌++◌}
use Rattle.std.specs.Prelude.{map}
use Rattle.certificate_laws.specs.Soundness.{AreOnce}
use Rattle.certificate_laws.proofs.Onces.{Apart, once_apart}
use Rattle.certificate_laws.proofs.Trackings.{same_tracked_tells}

-- ---- what stands at a place

no_none : (p : Tracked) → None ≡ Some p → ⊥
no_none p e = let h : None ≡ Some p = e in cc

same_some : (p q : Tracked) → Some p ≡ Some q → p ≡ q
same_some p q e = let h : Some p ≡ Some q = e in cc

some_at : (list : List Tracked) (k : ℕ) → k < length list → (p : Tracked) × (slice_get list k ≡ Some p)
some_at [] k h = absurd (omega arith)
some_at (p ∷ list) zero h = (p, refl)
some_at (p ∷ list) (suc k) h = some_at list k (let g : suc k < suc (length list) = h in omega arith)

in_at : (list : List Tracked) (k : ℕ) (p : Tracked) → slice_get list k ≡ Some p → IsIn p list
in_at [] k p e = no_none p e
in_at (q ∷ list) zero p e = inl (sym (same_some q p e))
in_at (q ∷ list) (suc k) p e = inr (in_at list k p e)

-- ---- what stands at one of the places

pub from_indices : (list : List Tracked) (indices : List ℕ) (p : Tracked) → IsIn p (at_indices list indices) → (i : ℕ) × IsIn i indices × (slice_get list i ≡ Some p)
from_indices list [] p i = absurd i
from_indices list (k ∷ indices) p i = go (slice_get list k) refl i (λ j. from_indices list indices p j)
  where
    go : (o : Option Tracked) → slice_get list k ≡ o → IsIn p (cons_option o (at_indices list indices)) → (IsIn p (at_indices list indices) → (i : ℕ) × IsIn i indices × (slice_get list i ≡ Some p)) → (i : ℕ) × IsIn i (k ∷ indices) × (slice_get list i ≡ Some p)
    go None e j f = let r = f j in (r.0, inr r.1, r.2)
    go (Some q) e (inl s) f = (k, inl refl, e ∙ ap Some (sym s))
    go (Some q) e (inr j) f = let r = f j in (r.0, inr r.1, r.2)

-- each pattern at one of the places is chosen
pub to_indices : (list : List Tracked) (indices : List ℕ) (i : ℕ) (p : Tracked) → IsIn i indices → slice_get list i ≡ Some p → IsIn p (at_indices list indices)
to_indices list [] i p j e = absurd j
to_indices list (k ∷ indices) i p j e = go (slice_get list k) refl j (λ h. to_indices list indices i p h e)
  where
    go : (o : Option Tracked) → slice_get list k ≡ o → IsIn i (k ∷ indices) → (IsIn i indices → IsIn p (at_indices list indices)) → IsIn p (cons_option o (at_indices list indices))
    go None f (inl s) h = absurd (no_none p (sym f ∙ ap (slice_get list) (sym s) ∙ e))
    go None f (inr j) h = h j
    go (Some q) f (inl s) h = inl (sym (same_some q p (sym f ∙ ap (slice_get list) (sym s) ∙ e)))
    go (Some q) f (inr j) h = inr (h j)

-- as many are chosen as there are places
pub count_indices : (list : List Tracked) (indices : List ℕ) → AllByRecursion (λ i. i < length list) indices → length (at_indices list indices) ≡ length indices
count_indices list [] w = refl
count_indices list (k ∷ indices) w =
    let s = some_at list k w.0 in
    ap (λ (o : Option Tracked). length (cons_option o (at_indices list indices))) s.1 ∙ ap suc (count_indices list indices w.1)

-- ---- all places

-- the indices `k..k + n`
abbrev pub indices_from : ℕ → ℕ → List ℕ
indices_from k zero = []
indices_from k (suc n) = k ∷ indices_from (suc k) n

behind_first : (p : Tracked) (list : List Tracked) (k n : ℕ) → at_indices (p ∷ list) (indices_from (suc k) n) ≡ at_indices list (indices_from k n)
behind_first p list k zero = refl
behind_first p list k (suc n) = ap (cons_option (slice_get list k)) (behind_first p list (suc k) n)

-- at all places stands the whole list
pub all_indices : (list : List Tracked) → at_indices list (indices_from 0 (length list)) ≡ list
all_indices [] = refl
all_indices (p ∷ list) = ap (λ (z : List Tracked). p ∷ z) (behind_first p list 0 (length list) ∙ all_indices list)

-- ---- none stands twice

later_is_other : (list : List Tracked) (i j : ℕ) (p : Tracked) → AreOnce list → i < j → slice_get list i ≡ Some p → slice_get list j ≡ Some p → ⊥
later_is_other [] i j p o h e f = no_none p e
later_is_other (q ∷ list) zero zero p o h e f = absurd (omega arith)
later_is_other (q ∷ list) zero (suc j) p o h e f = o.0 (subst (λ (z : Tracked). IsIn z list) (sym (same_some q p e)) (in_at list j p f))
later_is_other (q ∷ list) (suc i) zero p o h e f = absurd (omega arith)
later_is_other (q ∷ list) (suc i) (suc j) p o h e f = later_is_other list i j p o.1 (let g : suc i < suc j = h in omega arith) e f

rising_tail : (k : ℕ) (indices : List ℕ) → AllPairs (λ (i j : ℕ). i < j) (k ∷ indices) → AllPairs (λ (i j : ℕ). i < j) indices
rising_tail k indices r = λ i j d h w. r (suc i) (suc j) d (omega (arith, h)) (let e : suc j < suc (length indices) = omega (arith, w) in e)

in_index : (k : ℕ) (indices : List ℕ) → IsIn k indices → (i : ℕ) × (i < length indices) × (slice_index_or indices i k ≡ k)
in_index k [] j = absurd j
in_index k (i ∷ indices) (inl e) = (zero, omega arith, sym e)
in_index k (i ∷ indices) (inr j) = let r = in_index k indices j in let h = r.1 in (suc r.0, omega (arith, h), r.2)

rising_head : (k i : ℕ) (indices : List ℕ) → AllPairs (λ (i j : ℕ). i < j) (k ∷ indices) → IsIn i indices → k < i
rising_head k i indices r j =
    let at = in_index i indices j in
    let w = at.1 in
    subst (λ (z : ℕ). k < z) at.2 (r 0 (suc at.0) i (omega arith) (let e : suc at.0 < suc (length indices) = omega (arith, w) in e))

once_at : (list : List Tracked) (indices : List ℕ) → AreOnce list → AllPairs (λ (i j : ℕ). i < j) indices → AreOnce (at_indices list indices)
once_at list [] o r = tt
once_at list (k ∷ indices) o r = go (slice_get list k) refl (once_at list indices o (rising_tail k indices r))
  where
    go : (x : Option Tracked) → slice_get list k ≡ x → AreOnce (at_indices list indices) → AreOnce (cons_option x (at_indices list indices))
    go None e a = a
    go (Some p) e a = (λ i. (let f = from_indices list indices p i in later_is_other list k f.0 p o (rising_head k f.0 indices r f.1) e f.2), a)

apart_once : (ps : List Tracked) → Apart same_tracked same_tracked_tells ps → AreOnce ps
apart_once [] a = tt
apart_once (p ∷ ps) a = (a.0, apart_once ps a.1)

tracked_once : (t : Topology) (g : Guarantee) (list : List Tracked) → IsTrackedList t g list → AreOnce list
tracked_once t g list l =
    let all : List Tracked = as_topic g.pattern ∷ map as_topic g.excepts ++ l.names ++ flat_map (keys_of t) l.met in
    subst AreOnce (sym l.is) (apart_once (each_once same_tracked all) (once_apart same_tracked same_tracked_tells all))

pub chosen_once : (t : Topology) (g : Guarantee) (form : Form) (list ps : List Tracked) → IsTrackedList t g list → AreChosen form list ps → AreOnce ps
chosen_once t g Whole list ps l c = subst AreOnce (sym c) (tracked_once t g list l)
chosen_once t g (Sliced indices) list ps l c = subst AreOnce (sym c.1) (once_at list indices (tracked_once t g list l) c.0.rise.rising)
chosen_once t g (Excepting excepts indices) list ps l c = subst AreOnce (sym c.1) (once_at list indices (tracked_once t g list l) c.0.rise.rising)
