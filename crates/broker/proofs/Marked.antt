-- Queues over which picks go: each in whose line a consumer is awake is marked.
use Rattle.broker.proofs.Names.{◌∙◌, ◌<◌, ◌≤◌, ◌+◌, ◌*◌, ℕ, List, [], Bool, true, false, length, get_or, set, inl, inr, refl, sym, ap, subst, arith, ◌==◌, eqb-true, eq-eqb, false≢true, leb_tells, length-set, get_or-set_same, get_or-set_other, same_default, bit_of, Differs, Kept, IsPickFrom, Pick, Queue, line_of, IsAwake, AreKept, QueuesAreMarked, NoneMarked}
use Rattle.std.proofs.Common.{◌≡◌}
use Rattle.broker.proofs.Found.{cannot_pick}
use Rattle.broker.proofs.Members.{in_items}
use Rattle.broker.proofs.Present.{has_picked}

abbrev pub no_line : Queue Pick
no_line = record { order = []; capacity = 0 }

pub distinct : (n m : ℕ) → (n == m) ≡ false → n ≡ m → ⊥
distinct n m e same = false≢true (sym e ∙ eq-eqb n m same)

-- a queue from which a delivery can be made is marked
pub marked_by : (kept : Kept) (lines : List (Queue Pick)) (marks : List ℕ) (place : ℕ) (p : Pick) → QueuesAreMarked lines marks → AreKept kept lines → IsPickFrom kept place p → bit_of marks place ≡ 1
marked_by kept lines marks place p m k pick = elim (in_items p (line_of lines place).order (k.joined place p (has_picked kept place p pick))) [
  | inl up ↦ m.awake place p up
  | inr down ↦ absurd (cannot_pick kept place p (k.asleep place p down) pick)
]

-- up to a place with something ready, and on up to one that is marked
pub none_passed : (kept : Kept) (marks : List ℕ) (from next ready to : ℕ) → NoneMarked kept marks from next → ((place : ℕ) (p : Pick) → next ≤ place → place < ready → IsPickFrom kept place p → ⊥)
    → ((k : ℕ) → ready ≤ k → k < to → bit_of marks k ≡ 0) → NoneMarked kept marks from to
none_passed kept marks from next ready to none unready zeros place p least lt up pick = elim (leb_tells (place + 1) next) [
  | inl a ↦ let le = a.1 in none place p least (omega (arith, le)) up pick
  | inr a ↦
      let gt = a.1 in
      elim (leb_tells (place + 1) ready) [
        | inl b ↦ let before = b.1 in unready place p (omega (arith, gt)) (omega (arith, before)) pick
        | inr b ↦
            let behind = b.1 in
            let one = sym (zeros place (omega (arith, behind)) lt) ∙ up in
            omega (arith, one)
      ]
]

-- the line at the index of a queue is what is borrowed there
pub borrowed : (lines : List (Queue Pick)) (queue : ℕ) (l : Queue Pick) → queue < length lines → l ≡ get_or lines queue l → line_of lines queue ≡ l
borrowed lines queue l lt is = same_default lines queue no_line l lt ∙ sym is

-- one less, of a queue in whose line nobody is awake
pub marked_less : (lines : List (Queue Pick)) (old new : List ℕ) (queue : ℕ) → length new * 64 ≡ length old * 64 → Differs (bit_of old) (bit_of new) queue 0 → ((p : Pick) → IsAwake (line_of lines queue) p → ⊥) → QueuesAreMarked lines old → QueuesAreMarked lines new
marked_less lines old new queue len d none m = record {
  room = let room = m.room in omega (arith, len, room);
  awake = λ place p up. go place p up (place == queue) refl;
}
  where
    go : (place : ℕ) (p : Pick) → IsAwake (line_of lines place) p → (v : Bool) → (place == queue) ≡ v → bit_of new place ≡ 1
    go place p up true f = absurd (none p (subst (λ (n : ℕ). IsAwake (line_of lines n) p) (eqb-true place queue f) up))
    go place p up false f = d.others place (distinct place queue f) ∙ m.awake place p up

-- ---- one line changes

module _ (lines : List (Queue Pick)) (queue : ℕ) (l : Queue Pick) (lt : queue < length lines) where
  pub set_here : (place : ℕ) → (place == queue) ≡ true → line_of (set lines queue l) place ≡ l
  set_here place f = ap (line_of (set lines queue l)) (eqb-true place queue f) ∙ get_or-set_same lines queue l no_line lt

  pub was_here : (place : ℕ) → (place == queue) ≡ true → line_of lines place ≡ line_of lines queue
  was_here place f = ap (line_of lines) (eqb-true place queue f)

  pub set_there : (place : ℕ) → (place == queue) ≡ false → line_of (set lines queue l) place ≡ line_of lines place
  set_there place f = get_or-set_other lines queue place l no_line (distinct place queue f)

  -- what holds of it, and of each that doesn't change, holds of each
  pub each_set : (P : ℕ → Queue Pick → Queue Pick → Type 0) → P queue (line_of lines queue) l → ((place : ℕ) (x : Queue Pick) → P place x x) → (place : ℕ) → P place (line_of lines place) (line_of (set lines queue l) place)
  each_set P here same place = go (place == queue) refl
    where
      go : (v : Bool) → (place == queue) ≡ v → P place (line_of lines place) (line_of (set lines queue l) place)
      go true f =
          subst (λ (n : ℕ). P n (line_of lines place) (line_of (set lines queue l) place)) (sym (eqb-true place queue f))
          (subst (λ (x : Queue Pick). P queue x (line_of (set lines queue l) place)) (sym (was_here place f)) (subst (λ (x : Queue Pick). P queue (line_of lines queue) x) (sym (set_here place f)) here))
      go false f = subst (λ (x : Queue Pick). P place (line_of lines place) x) (sym (set_there place f)) (same place (line_of lines place))

  -- and it is marked where somebody is awake in it
  pub marked_moved : (old new : List ℕ) → length new ≡ length old → ((k : ℕ) → bit_of old k ≡ 1 → bit_of new k ≡ 1) → ((p : Pick) → IsAwake l p → bit_of new queue ≡ 1) → QueuesAreMarked lines old → QueuesAreMarked (set lines queue l) new
  marked_moved old new len stay here m = record {
    room = let room = m.room in let long = length-set lines queue l in omega (arith, room, long, len);
    awake = λ place p up. go place p up (place == queue) refl;
  }
    where
      go : (place : ℕ) (p : Pick) → IsAwake (line_of (set lines queue l) place) p → (v : Bool) → (place == queue) ≡ v → bit_of new place ≡ 1
      go place p up true f = ap (bit_of new) (eqb-true place queue f) ∙ here p (subst (λ (x : Queue Pick). IsAwake x p) (set_here place f) up)
      go place p up false f = stay place (m.awake place p (subst (λ (x : Queue Pick). IsAwake x p) (set_there place f) up))

  -- as where nobody is awake in it who was not
  pub marked_still : (marks : List ℕ) → ((p : Pick) → IsAwake l p → IsAwake (line_of lines queue) p) → QueuesAreMarked lines marks → QueuesAreMarked (set lines queue l) marks
  marked_still marks none m = marked_moved marks marks refl (λ k up. up) (λ p up. m.awake queue p (none p up)) m

  -- or it gets a mark
  pub marked_set : (old new named : List ℕ) → length new * 64 ≡ length old * 64 → Differs (bit_of old) (bit_of new) queue 1 → QueuesAreMarked lines old → length lines ≤ length named * 64
      → QueuesAreMarked (set lines queue l) new × (length (set lines queue l) ≤ length named * 64)
  marked_set old new named size d m room =
      let long = length-set lines queue l in
      (marked_moved old new (omega (arith, size)) (λ k up. go k up (k == queue) refl) (λ p up. d.there) m, omega (arith, long, room))
    where
      go : (k : ℕ) → bit_of old k ≡ 1 → (v : Bool) → (k == queue) ≡ v → bit_of new k ≡ 1
      go k up true f = ap (bit_of new) (eqb-true k queue f) ∙ d.there
      go k up false f = d.others k (distinct k queue f) ∙ up
