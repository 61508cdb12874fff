-- The set of loud slots has exactly those that have no mark, and what is due of marked slots is nothing.
use Rattle.serving.proofs.Names.{◌≡◌, ◌≤◌, ◌<◌, ◌+◌, ◌*◌, ◌++◌, ℕ, zero, suc, max, List, [], ◌∷◌, Bool, true, false, cond, Option, None, length, replicate, drop, flat_map, append-nil, refl, sym, ap, subst, ◌∙◌, ◌⊎◌, inl, inr, slice_set, slice_index_or, arith, false≢true, cases_eq, cases_lt, drop_all, World, Ask, AreLoud, IsMarkedAt, IsNextLoud, loud_bit, write_of, Peer, get_or-set_other, get_or-set_same, get_or_default, get_or_past, length-replicate, length-set}
use Rattle.std.proofs.Common.{not}
use Rattle.std.proofs.Math.Nat.{max-eq_left, max-eq_right}
use Rattle.marks.specs.Sets.{Differs, IsNextMark, bit_of}
use Rattle.serving.proofs.Others.{due_at, later_on}

-- ---- marks and the set

all_true : (n i : ℕ) → slice_index_or (replicate n true) i true ≡ true
all_true zero i = refl
all_true (suc n) zero = refl
all_true (suc n) (suc i) = all_true n i

-- where all are marked none is in it
pub loud_none : (loud : List ℕ) (marks : List Bool) (n : ℕ) → marks ≡ replicate n true → ((i : ℕ) → bit_of loud i ≡ 0) → n ≤ length loud * 64 → AreLoud loud marks
loud_none loud marks n is none room = record {
  room = let len = ap length is ∙ length-replicate n true in omega (arith, len, room);
  each = λ i. none i ∙ sym (ap (λ (ms : List Bool). loud_bit ms i) is ∙ ap (λ (x : Bool). cond x 0 1) (all_true n i));
}

turned : (x : Bool) → ◌≡◌ {A = ℕ} (cond (not x) 1 0) (cond x 0 1)
turned true = refl
turned false = refl

-- one mark was set or taken away, and its slot taken out or put in
pub loud_put : (old new : List ℕ) (marks : List Bool) (slot : ℕ) (x : Bool) → slot < length marks → Differs (bit_of old) (bit_of new) slot (cond (not x) 1 0) → length new ≡ length old → AreLoud old marks → AreLoud new (slice_set marks slot x)
loud_put old new marks slot x lt put len was = record {
  room = let more = length-set marks slot x in let room = was.room in omega (arith, more, len, room);
  each = λ i. go i (cases_eq i slot);
}
  where
    go : (i : ℕ) → (i ≡ slot) ⊎ (i ≡ slot → ⊥) → bit_of new i ≡ loud_bit (slice_set marks slot x) i
    go i (inl e) =
        ap (bit_of new) e ∙ put.there ∙ turned x ∙ ap (λ (y : Bool). cond y 0 1) (sym (get_or-set_same marks slot x true lt)) ∙ ap (loud_bit (slice_set marks slot x)) (sym e)
    go i (inr ne) = put.others i ne ∙ was.each i ∙ ap (λ (y : Bool). cond y 0 1) (sym (get_or-set_other marks slot i x true ne))

-- in it is a slot of which the mark was taken away
unmarked : (marks : List Bool) (i : ℕ) → slice_index_or marks i true ≡ false → (i < length marks) × (slice_index_or marks i false ≡ false)
unmarked [] i e = absurd (false≢true (sym e))
unmarked (m ∷ ms) zero e = (omega arith, e)
unmarked (m ∷ ms) (suc i) e = let u = unmarked ms i e in let lt = u.0 in (omega (arith, lt), u.1)

-- a mark was taken away where none was before
pub unmarked_more : (marks : List Bool) (slot i : ℕ) → ((j : ℕ) → j < slot → slice_index_or marks j false ≡ false) → i < slot + 1 → slice_index_or (slice_set marks slot false) i false ≡ false
unmarked_more [] slot i none lt = refl
unmarked_more (m ∷ ms) zero zero none lt = refl
unmarked_more (m ∷ ms) zero (suc i) none lt = absurd (omega (arith, lt))
unmarked_more (m ∷ ms) (suc slot) zero none lt = none 0 (omega arith)
unmarked_more (m ∷ ms) (suc slot) (suc i) none lt = unmarked_more ms slot i (λ j less. none (suc j) (omega (arith, less))) (omega (arith, lt))

in_set : (x : Bool) → ◌≡◌ {A = ℕ} (cond x 0 1) 1 → x ≡ false
in_set false e = refl
in_set true e = absurd (omega (arith, e))

not_in_set : (x : Bool) → ◌≡◌ {A = ℕ} (cond x 0 1) 0 → x ≡ true
not_in_set true e = refl
not_in_set false e = absurd (omega (arith, e))

-- one that is not in it, up to the end of the marks, is marked
marked_out : (loud : List ℕ) (marks : List Bool) → AreLoud loud marks → (i : ℕ) → i < length marks → bit_of loud i ≡ 0 → IsMarkedAt marks i
marked_out loud marks are i lt e = get_or_default marks i false true lt ∙ not_in_set (slice_index_or marks i true) (sym (are.each i) ∙ e)

-- one that has no mark is the next
pub next_here : (marks : List Bool) (from : ℕ) → slice_index_or marks from false ≡ false → IsNextLoud marks from from
next_here marks from none = record { least = omega arith; loud = none; before = λ i le less. absurd (omega (arith, le, less)) }

-- the next of the set has no mark, and those before it are marked
pub next_in : (loud : List ℕ) (marks : List Bool) (from slot : ℕ) → AreLoud loud marks → IsNextMark (bit_of loud) from slot → IsNextLoud marks from slot
next_in loud marks from slot are next =
    let here = unmarked marks slot (in_set (slice_index_or marks slot true) (sym (are.each slot) ∙ next.there)) in
    let within = here.0 in
    record { least = next.least; loud = here.1; before = λ i le less. marked_out loud marks are i (omega (arith, less, within)) (next.before i le less) }

-- if the set has no further slot, the next is the first past the end of the marks
pub next_behind : (loud : List ℕ) (marks : List Bool) (from : ℕ) → AreLoud loud marks → ((i : ℕ) → from ≤ i → bit_of loud i ≡ 0) → IsNextLoud marks from (max from (length marks))
next_behind loud marks from are none = go (cases_lt from (length marks))
  where
    go : (from < length marks) ⊎ (length marks ≤ from) → IsNextLoud marks from (max from (length marks))
    go (inl lt) = subst (IsNextLoud marks from) (sym (max-eq_right (omega (arith, lt)))) (record {
      least = omega (arith, lt);
      loud = get_or_past marks (length marks) false (omega arith);
      before = λ i le less. marked_out loud marks are i less (none i le);
    })
    go (inr ge) = subst (IsNextLoud marks from) (sym (max-eq_left ge)) (record {
      least = omega arith;
      loud = get_or_past marks from false ge;
      before = λ i le less. absurd (omega (arith, le, less));
    })

-- ---- from one loud slot to the next

pub later_to : (start now : List (Option Peer)) (i j n : ℕ) → j ≡ i + n → drop i now ≡ drop i start → drop j now ≡ drop j start
later_to start now i j zero is e = let same : i ≡ j = omega (arith, is) in subst (λ (k : ℕ). drop k now ≡ drop k start) same e
later_to start now i j (suc n) is e = later_to start now (i + 1) j n (omega (arith, is)) (later_on start now i e)

pub due_to : (f : Option Peer → List Ask) → f None ≡ [] → (ps : List (Option Peer)) (i j n : ℕ) → j ≡ i + n → ((k : ℕ) → i ≤ k → k < j → f (slice_index_or ps k None) ≡ []) → flat_map f (drop i ps) ≡ flat_map f (drop j ps)
due_to f e ps i j zero is none = let same : i ≡ j = omega (arith, is) in ap (λ (k : ℕ). flat_map f (drop k ps)) same
due_to f e ps i j (suc n) is none =
    due_at f e ps i ∙ ap (λ (z : List Ask). z ++ flat_map f (drop (suc i) ps)) (none i (omega arith) (omega (arith, is)))
    ∙ due_to f e ps (suc i) j n (omega (arith, is)) (λ k le lt. none k (omega (arith, le)) lt)

-- slots up to j were passed by, each of which is marked
pub record PassedBy (w : World) (start now : List (Option Peer)) (j : ℕ) (asked due : List Ask) : Type 0 where
  pub later : drop j now ≡ drop j start
  pub so_far : asked ++ flat_map (write_of w) (drop j start) ≡ due

-- behind the last slot nothing is due
pub all_passed : (w : World) (start now : List (Option Peer)) (j : ℕ) (asked due : List Ask) → length start ≤ j → PassedBy w start now j asked due → asked ≡ due
all_passed w start now j asked due le p =
    let none : flat_map (write_of w) (drop j start) ≡ [] = ap (flat_map (write_of w)) (drop_all j start le) in
    sym (append-nil asked) ∙ ap (λ (z : List Ask). asked ++ z) (sym none) ∙ p.so_far
