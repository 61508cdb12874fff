-- From which queue a delivery is made, and that it has something ready.
use Rattle.commands.proofs.Names.{◌≡◌, ◌∙◌, ◌<◌, ℕ, zero, suc, List, [], ◌∷◌, Bool, true, false, cond, Option, None, get_or, filter, inl, inr, refl, sym, ap, subst, arith, is_some, IfSome, IfNone, bytes_eq, false≢true, bytes_eq-Decides, Text, Topology, IsIn, AreDistinct, queue_names, is_ready, listed, CanDeliver, first_ready, Entry, DeclaredQueue, queue_name, queue_at, HasReady, IsQueueNamed, IsNextReady, IsPickFrom, IsNextPicked, Kept, broker_of, topology_kept, names_of, Pick}
use Rattle.std.proofs.Common.{Some, length, find, if◌then◌else◌}

-- ---- names apart

name_in : (names : List Text) (i : ℕ) → i < length names → IsIn (get_or names i []) names
name_in [] i lt = absurd (omega (arith, lt))
name_in (n ∷ ns) zero lt = inl refl
name_in (n ∷ ns) (suc i) lt = inr (name_in ns i (omega (arith, lt)))

one_place : (names : List Text) (i j : ℕ) → AreDistinct names → i < length names → j < length names → get_or names i [] ≡ get_or names j [] → i ≡ j
one_place [] i j distinct h k e = absurd (omega (arith, h))
one_place (x ∷ xs) zero zero distinct h k e = refl
one_place (x ∷ xs) zero (suc j) distinct h k e = absurd (distinct.0 (subst (λ (y : Text). IsIn y xs) (sym e) (name_in xs j (omega (arith, k)))))
one_place (x ∷ xs) (suc i) zero distinct h k e = absurd (distinct.0 (subst (λ (y : Text). IsIn y xs) e (name_in xs i (omega (arith, h)))))
one_place (x ∷ xs) (suc i) (suc j) distinct h k e = ap suc (one_place xs i j distinct.1 (omega (arith, h)) (omega (arith, k)) e)

names_long : (qs : List DeclaredQueue) → length (queue_names qs) ≡ length qs
names_long [] = refl
names_long (q ∷ qs) = ap suc (names_long qs)

-- two queues with one name have one index
pub same_place : (t : Topology) (i j : ℕ) → AreDistinct (queue_names t.queues) → i < length t.queues → j < length t.queues → queue_name t i ≡ queue_name t j → i ≡ j
same_place t i j distinct h k e = let long = names_long t.queues in one_place (queue_names t.queues) i j distinct (omega (arith, long, h)) (omega (arith, long, k)) e

-- where a place is told for a name exactly where it is one of a queue, it is the queue's
pub place_of_name : (t : Topology) (name : Text) (o : Option ℕ) (place : ℕ) → AreDistinct (queue_names t.queues) → IfSome o (λ i. i < length t.queues) → IfSome o (λ i. queue_name t i ≡ name)
    → IfNone o (IsIn name (queue_names t.queues) → ⊥) → place < length t.queues → queue_name t place ≡ name → o ≡ Some place
place_of_name t name None place distinct within reported absent lt named =
    let long = names_long t.queues in
    absurd (absent (subst (λ (n : Text). IsIn n (queue_names t.queues)) named (name_in (queue_names t.queues) place (omega (arith, long, lt)))))
place_of_name t name (Some i) place distinct within reported absent lt named = ap (λ (n : ℕ). Some n) (same_place t i place distinct within lt (reported ∙ sym named))

-- ---- the queue of a delivery

-- where a queue of this name is there, it has a place
record StandsAt (names : List Text) (q : Text) : Type 0 where
  place : ℕ
  within : place < length names
  named : get_or names place [] ≡ q

stands : (names : List Text) (lists : List (List Entry)) (q : Text) (e : Entry) → first_ready (listed names lists q) ≡ Some e → StandsAt names q
stands [] lists q e f = absurd (false≢true (ap is_some f))
stands (n ∷ ns) [] q e f = absurd (false≢true (ap is_some f))
stands (n ∷ ns) (es ∷ ess) q e f = go (bytes_eq n q) refl f (stands ns ess q e)
  where
    go : (v : Bool) → bytes_eq n q ≡ v → first_ready (if v then es else listed ns ess q) ≡ Some e → (first_ready (listed ns ess q) ≡ Some e → StandsAt ns q) → StandsAt (n ∷ ns) q
    go true is g more = record { place = zero; within = omega arith; named = (bytes_eq-Decides n q).0 is }
    go false is g more = let later = more g in let lt = later.within in record { place = suc later.place; within = omega (arith, lt); named = later.named }

-- The place of the queue from which a delivery is made.
pub record From (kept : Kept) (c : ℕ) (made : CanDeliver (broker_of kept) c) : Type 0 where
  pub place : ℕ
  pub within : place < length (topology_kept kept).queues
  pub named : queue_name (topology_kept kept) place ≡ made.consumer.queue

pub pick_from : (kept : Kept) (c : ℕ) (made : CanDeliver (broker_of kept) c) → From kept c made
pick_from kept c made =
    let at = stands (names_of kept) kept.store.queues made.consumer.queue made.entry made.first in
    let long = names_long kept.store.topology.queues in
    let lt = at.within in
    record { place = at.place; within = omega (arith, long, lt); named = at.named }

-- ---- it has something ready

found_counted : {X : Type 0} (p : X → Bool) (xs : List X) (x : X) → find p xs ≡ Some x → 0 < length (filter p xs)
found_counted p [] x e = absurd (false≢true (ap is_some e))
found_counted {X} p (y ∷ ys) x e = go (p y) e (found_counted p ys x)
  where
    go : (v : Bool) → cond v (Some y) (find p ys) ≡ Some x → (find p ys ≡ Some x → 0 < length (filter p ys)) → 0 < length (cond v (y ∷ filter p ys) (filter p ys))
    go true f more = omega arith
    go false f more = more f

ready_from : (kept : Kept) (place : ℕ) (p : Pick) → IsQueueNamed kept.store place → IsPickFrom kept place p → HasReady kept.store place
ready_from kept place p named from =
    found_counted is_ready (queue_at kept.store place) from.pick.0.entry
    (subst (λ (es : List Entry). find is_ready es ≡ Some from.pick.0.entry) named.entries_are
    (subst (λ (q : Text). find is_ready ((broker_of kept).queue q) ≡ Some from.pick.0.entry) (sym from.named) from.pick.0.first))

-- the next queue that has something ready is the next from which a delivery may be made
pub next_is : (kept : Kept) (from : ℕ) (o : Option ℕ) → ((place : ℕ) → place < length (topology_kept kept).queues → IsQueueNamed kept.store place) → IsNextReady kept.store from o → IsNextPicked kept from o
next_is kept from (Some place) named is = record {
  least = is.behind;
  within = is.within;
  ready = is.ready;
  before = λ at p le lt pick. is.first at le lt (ready_from kept at p (named at pick.within) pick);
}
next_is kept from None named is = λ at p le pick. is at le pick.within (ready_from kept at p (named at pick.within) pick)
