-- Lines and queues are gone over in turn.
use Rattle.broker.proofs.Names.{◌∙◌, ◌<◌, ◌≤◌, ◌++◌, ℕ, List, [], ◌∷◌, Bool, true, false, length, set, min, inl, inr, refl, sym, ap, subst, arith, ◌==◌, eqb-true, eq-eqb, length-set, IsIn, Kept, IsPickFrom, CannotTake, Pick, Queue, AllDistinct, PicksOne, Rest, AllAsleep, Wakes, is_consumer, line_of, order, awake_member, asleep_member, CanTakeFrom, CannotTakeFrom, AreItsConsumers, AreKept, NoneBetween, NonePassed, GoesLast, PicksFrom, SameOrders, NobodyFallsAsleep, IsNotAsleepAt}
use Rattle.std.proofs.Common.{◌≡◌, ◌⊎◌, append_assoc}
use Rattle.commands.specs.State.{broker_of}
use Rattle.broker.proofs.Found.{cannot_pick}
use Rattle.broker.proofs.Lists.{in_either, in_left, in_right, distinct_parts}
use Rattle.broker.proofs.Marked.{set_here, set_there, was_here, each_set}
use Rattle.broker.proofs.Members.{in_items, items_in, line_rested, rested_in, none_up, picked_in, picked_last, line_woken, woken_in, woken_up}
use Rattle.broker.proofs.Passing.{passed_on, passed_round, passed_least}
use Rattle.broker.proofs.Present.{has_picked}
use Rattle.broker.proofs.Takers.{picked_of}

-- ---- queues

module _ (kept : Kept) (count next turn queue : ℕ) (is : turn ≡ min next count) where
  pub queues_on : turn ≤ queue → queue < count → NoneBetween kept turn queue → NonePassed kept count next queue
  queues_on le lt none at p passed pick =
      let q = passed_on count turn queue at le lt (passed_least count next turn queue at is lt passed) in
      none at p q.0 q.1 pick

  pub queues_back : queue < turn → NoneBetween kept turn count → NoneBetween kept 0 queue → NonePassed kept count next queue
  queues_back lt behind before at p passed pick =
      let fits : queue < count = omega (arith, is, lt) in
      elim (passed_round count turn queue at lt (passed_least count next turn queue at is fits passed)) [
        | inl le ↦ behind at p le passed.0 pick
        | inr less ↦ before at p (omega arith) less pick
      ]

-- the same is picked from lines with the same orders
pub picks_since : (kept : Kept) (old mid new : List (Queue Pick)) (queue : ℕ) (p : Pick) → SameOrders old mid → PicksFrom kept mid new queue p → PicksFrom kept old new queue p
picks_since kept old mid new queue p same from = record {
  line = record { front = from.line.front; back = from.line.back; was = sym (same queue) ∙ from.line.was; now = from.line.now; passed = from.line.passed };
  others = λ at far. from.others at far ∙ same at;
}

-- ---- one line

-- where one goes last, with those before it, the same are in the line
last_in : (front : List Pick) (p : Pick) (back old new : List Pick) → old ≡ front ++ p ∷ back → new ≡ back ++ front ++ p ∷ [] → (q : Pick) → IsIn q old → IsIn q new
last_in front p back old new was now q i = subst (IsIn q) (sym now) (go (in_either q front (p ∷ back) (subst (IsIn q) was i)))
  where
    go : IsIn q front ⊎ IsIn q (p ∷ back) → IsIn q (back ++ front ++ p ∷ [])
    go (inl j) = in_left q (back ++ front) (p ∷ []) (in_right q back front j)
    go (inr (inl e)) = in_right q (back ++ front) (p ∷ []) (inl e)
    go (inr (inr j)) = in_left q (back ++ front) (p ∷ []) (in_left q back front j)

in_last : (front : List Pick) (p : Pick) (back old new : List Pick) → old ≡ front ++ p ∷ back → new ≡ back ++ front ++ p ∷ [] → (q : Pick) → IsIn q new → IsIn q old
in_last front p back old new was now q i = subst (IsIn q) (sym was) (go (in_either q (back ++ front) (p ∷ []) (subst (IsIn q) now i)))
  where
    go : IsIn q (back ++ front) ⊎ IsIn q (p ∷ []) → IsIn q (front ++ p ∷ back)
    go (inl j) = elim (in_either q back front j) [ inl k ↦ in_right q front (p ∷ back) (inr k) | inr k ↦ in_left q front (p ∷ back) k ]
    go (inr (inl e)) = in_right q front (p ∷ back) (inl e)
    go (inr (inr none)) = absurd none

last_once : (front : List Pick) (p : Pick) (back old new : List Pick) → old ≡ front ++ p ∷ back → new ≡ back ++ front ++ p ∷ [] → AllDistinct old → AllDistinct new
last_once front p back old new was now d =
    subst (λ (ps : List Pick). AllDistinct ps) (sym (now ∙ append_assoc back front (p ∷ [])))
    (distinct_parts (front ++ p ∷ []) back (subst (λ (ps : List Pick). AllDistinct ps) (was ∙ sym (append_assoc front (p ∷ []) back)) d))

-- The line of one queue changes: the same are in it, each once, and whoever sleeps in it slept or can't take.
module _ (kept : Kept) (lines : List (Queue Pick)) (queue : ℕ) (l : Queue Pick) (lt : queue < length lines) (k : AreKept kept lines)
    (into : (q : Pick) → IsIn q (order (line_of lines queue)) → IsIn q (order l)) (out : (q : Pick) → IsIn q (order l) → IsIn q (order (line_of lines queue)))
    (once : AllDistinct (order l)) (asleep : (q : Pick) → IsIn (asleep_member q) l.order → CannotTake (broker_of kept) q) where
  pub kept_set : AreKept kept (set lines queue l)
  kept_set = record {
    lines_for = length-set lines queue l ∙ k.lines_for;
    joined = λ place p has. each_set lines queue l lt (λ n x y. (q : Pick) → IsIn q (order x) → IsIn q (order y)) into (λ n x q i. i) place p (k.joined place p has);
    own = λ place. go place (place == queue) refl;
    asleep = λ place p i. down place p i (place == queue) refl;
  }
    where
      go : (place : ℕ) (v : Bool) → (place == queue) ≡ v → AreItsConsumers kept place (order (line_of (set lines queue l) place))
      go place true f = subst (λ (x : Queue Pick). AreItsConsumers kept place (order x)) (sym (set_here lines queue l lt place f)) (record {
        there = λ q i. (k.own place).there q (subst (λ (x : Queue Pick). IsIn q (order x)) (sym (was_here lines queue l lt place f)) (out q i));
        once = once;
      })
      go place false f = subst (λ (x : Queue Pick). AreItsConsumers kept place (order x)) (sym (set_there lines queue l lt place f)) (k.own place)

      down : (place : ℕ) (p : Pick) → IsIn (asleep_member p) (line_of (set lines queue l) place).order → (v : Bool) → (place == queue) ≡ v → CannotTake (broker_of kept) p
      down place p i true f = asleep p (subst (λ (x : Queue Pick). IsIn (asleep_member p) x.order) (set_here lines queue l lt place f) i)
      down place p i false f = k.asleep place p (subst (λ (x : Queue Pick). IsIn (asleep_member p) x.order) (set_there lines queue l lt place f) i)

-- ---- a pick

module _ (kept : Kept) (lines : List (Queue Pick)) (queue : ℕ) (old new : Queue Pick) (lt : queue < length lines) (k : AreKept kept lines) (here : line_of lines queue ≡ old) where
  its : (p : Pick) → IsIn (asleep_member p) old.order → CannotTake (broker_of kept) p
  its p i = k.asleep queue p (subst (λ (x : Queue Pick). IsIn (asleep_member p) x.order) (sym here) i)

  -- whoever slept or can't take from the queue can't take, if it is in its line
  down : (p : Pick) → IsIn p (order old) → IsIn (asleep_member p) old.order ⊎ CannotTakeFrom kept queue p → CannotTake (broker_of kept) p
  down p i (inl slept) = its p slept
  down p i (inr cannot) = cannot ((k.own queue).there p (subst (λ (x : Queue Pick). IsIn p (order x)) (sym here) i))

  none : (p : Pick) → IsIn (asleep_member p) old.order ⊎ CannotTakeFrom kept queue p → IsPickFrom kept queue p → ⊥
  none p (inl slept) pick = cannot_pick kept queue p (its p slept) pick
  none p (inr cannot) pick = cannot_pick kept queue p (cannot (picked_of kept queue p pick)) pick

  set_is : line_of (set lines queue new) queue ≡ new
  set_is = set_here lines queue new lt queue (eq-eqb queue queue refl)

  -- one is picked
  module _ (x : Pick) (picks : PicksOne (CanTakeFrom kept queue) (CannotTakeFrom kept queue) old.order x new.order) where
    goes : GoesLast kept queue (order old) (order new) x
    goes = picked_last (CanTakeFrom kept queue) (CannotTakeFrom kept queue) old.order new.order x picks kept queue none

    old_in : (q : Pick) → IsIn q (order new) → IsIn q (order old)
    old_in = in_last goes.front x goes.back (order old) (order new) goes.was goes.now

    pub picked_kept : AreKept kept (set lines queue new)
    picked_kept = kept_set kept lines queue new lt k
        (λ q i. last_in goes.front x goes.back (order old) (order new) goes.was goes.now q (subst (λ (l : Queue Pick). IsIn q (order l)) here i))
        (λ q i. subst (λ (l : Queue Pick). IsIn q (order l)) (sym here) (old_in q i))
        (last_once goes.front x goes.back (order old) (order new) goes.was goes.now (subst (λ (l : Queue Pick). AllDistinct (order l)) here (k.own queue).once))
        (λ q i. down q (old_in q (items_in (asleep_member q) new.order i)) (picked_in (CanTakeFrom kept queue) (CannotTakeFrom kept queue) old.order new.order x picks q i))

    pub picked_from : PicksFrom kept lines (set lines queue new) queue x
    picked_from = record {
      line = subst (λ (l : Queue Pick). GoesLast kept queue (order l) (order (line_of (set lines queue new) queue)) x) (sym here)
          (subst (λ (l : Queue Pick). GoesLast kept queue (order old) (order l) x) (sym set_is) goes);
      others = λ at far. ap order (set_there lines queue new lt at (apart at far));
    }
      where
        apart : (at : ℕ) → (at ≡ queue → ⊥) → (at == queue) ≡ false
        apart at far = go (at == queue) refl
          where
            go : (v : Bool) → (at == queue) ≡ v → v ≡ false
            go true f = absurd (far (eqb-true at queue f))
            go false f = refl

  -- or none is
  module _ (rest : Rest (CannotTakeFrom kept queue) old.order new.order) (all : AllAsleep new.order) where
    same : order new ≡ order old
    same = line_rested (CannotTakeFrom kept queue) old.order new.order rest

    pub rested_kept : AreKept kept (set lines queue new)
    rested_kept = kept_set kept lines queue new lt k
        (λ q i. subst (IsIn q) (sym same) (subst (λ (l : Queue Pick). IsIn q (order l)) here i))
        (λ q i. subst (λ (l : Queue Pick). IsIn q (order l)) (sym here) (subst (IsIn q) same i))
        (subst (λ (ps : List Pick). AllDistinct ps) (sym same) (subst (λ (l : Queue Pick). AllDistinct (order l)) here (k.own queue).once))
        (λ q i. down q (subst (IsIn q) same (items_in (asleep_member q) new.order i)) (rested_in (CannotTakeFrom kept queue) old.order new.order rest q i))

    pub rested_same : SameOrders lines (set lines queue new)
    rested_same = each_set lines queue new lt (λ n x y. order y ≡ order x) (same ∙ ap order (sym here)) (λ n x. refl)

    -- no delivery can be made from the queue
    pub rested_none : (p : Pick) → IsPickFrom kept queue p → ⊥
    rested_none p pick =
        let i = subst (λ (l : Queue Pick). IsIn p (order l)) here (k.joined queue p (has_picked kept queue p pick)) in
        elim (in_items p new.order (subst (IsIn p) (sym same) i)) [
          | inl up ↦ none_up new.order p all up
          | inr slept ↦ none p (rested_in (CannotTakeFrom kept queue) old.order new.order rest p slept) pick
        ]

    pub rested_down : (p : Pick) → IsIn (awake_member p) (line_of (set lines queue new) queue).order → ⊥
    rested_down p up = none_up new.order p all (subst (λ (l : Queue Pick). IsIn (awake_member p) l.order) set_is up)

-- ---- a consumer is woken

module _ (lines : List (Queue Pick)) (queue : ℕ) (l : Queue Pick) (lt : queue < length lines) (q : Pick) (wakes : Wakes (λ p. is_consumer p q) (line_of lines queue).order l.order) where
  pub woken_same : SameOrders lines (set lines queue l)
  woken_same = each_set lines queue l lt (λ n x y. order y ≡ order x) (line_woken (λ p. is_consumer p q) (line_of lines queue).order l.order wakes) (λ n x. refl)

  pub woken_asleep : NobodyFallsAsleep lines (set lines queue l)
  woken_asleep place p = each_set lines queue l lt (λ n x y. IsIn (asleep_member p) y.order → IsIn (asleep_member p) x.order) (λ i. woken_in (λ p. is_consumer p q) (line_of lines queue).order l.order wakes p i) (λ n x i. i) place

  pub woken_here : IsNotAsleepAt (set lines queue l) queue q
  woken_here once i =
      woken_up q (line_of lines queue).order l.order wakes (subst (λ (x : Queue Pick). AllDistinct (order x)) (set_here lines queue l lt queue (eq-eqb queue queue refl)) once)
      (subst (λ (x : Queue Pick). IsIn (asleep_member q) x.order) (set_here lines queue l lt queue (eq-eqb queue queue refl)) i)

-- whoever is awake stays so while orders are the same and nobody falls asleep
pub awake_still : (old new : List (Queue Pick)) → SameOrders old new → NobodyFallsAsleep old new → (place : ℕ) (p : Pick) → IsNotAsleepAt old place p → IsNotAsleepAt new place p
awake_still old new same asleep place p awake once i = awake (subst (λ (ps : List Pick). AllDistinct ps) (same place) once) (asleep place p i)
