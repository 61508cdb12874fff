-- A consumer that could be picked, while another is, is nearer to its turn.
use Rattle.broker.proofs.Names.{◌∙◌, ◌<◌, ◌+◌, ◌++◌, ℕ, List, [], ◌∷◌, Bool, true, false, Option, Some, None, if◌then◌else◌, length, inl, inr, refl, sym, ap, subst, arith, IfSome, false≢true, Topology, IsIn, Kept, IsPickFrom, Pick, ahead, count_before, IsPassed, Rounds, is_consumer, AreKept, GoesOn, PicksFirst, WithTurn, with_turn, CanGive, IsFirst, IsInLine, IsPickedInTurn, LinesStay, ahead_at, count_before_at, line_at, queues}
use Rattle.std.proofs.Common.{◌≡◌, ◌⊎◌}
use Rattle.broker.specs.Turns.{topology_kept}
use Rattle.broker.proofs.Lists.{in_either, in_left}
use Rattle.broker.proofs.Members.{one_consumer, same_consumer}
use Rattle.broker.proofs.Passing.{ahead_nearer}
use Rattle.broker.proofs.Takers.{order_at}

-- ---- how many are before one

-- before those that follow one who is not in front, and is not the next
count_before_behind : (p q : Pick) (front back : List Pick) → (IsIn p front → ⊥) → (p ≡ q → ⊥) → count_before (is_consumer p) (front ++ q ∷ back) ≡ length front + 1 + count_before (is_consumer p) back
count_before_behind p q [] back none far = go (is_consumer p q) refl
  where
    go : (v : Bool) → is_consumer p q ≡ v → (if v then 0 else 1 + count_before (is_consumer p) back) ≡ 0 + 1 + count_before (is_consumer p) back
    go true e = absurd (far (same_consumer p q e))
    go false e = omega arith
count_before_behind p q (x ∷ front) back none far = go (is_consumer p x) refl (count_before_behind p q front back (λ i. none (inr i)) far)
  where
    go : (v : Bool) → is_consumer p x ≡ v → count_before (is_consumer p) (front ++ q ∷ back) ≡ length front + 1 + count_before (is_consumer p) back
        → (if v then 0 else 1 + count_before (is_consumer p) (front ++ q ∷ back)) ≡ length (x ∷ front) + 1 + count_before (is_consumer p) back
    go true e more = absurd (none (inl (same_consumer p x e)))
    go false e more = omega (arith, more)

-- nobody who comes behind it matters
pub count_before_in_front : (p : Pick) (back more : List Pick) → IsIn p back → count_before (is_consumer p) (back ++ more) ≡ count_before (is_consumer p) back
count_before_in_front p [] more i = absurd i
count_before_in_front p (x ∷ back) more i = go (is_consumer p x) refl i (count_before_in_front p back more)
  where
    go : (v : Bool) → is_consumer p x ≡ v → IsIn p (x ∷ back) → (IsIn p back → count_before (is_consumer p) (back ++ more) ≡ count_before (is_consumer p) back)
        → (if v then 0 else 1 + count_before (is_consumer p) (back ++ more)) ≡ (if v then 0 else 1 + count_before (is_consumer p) back)
    go true e j rest = refl
    go false e (inl s) rest = absurd (false≢true (sym e ∙ ap (is_consumer p) (sym s) ∙ one_consumer p))
    go false e (inr j) rest = ap (λ (n : ℕ). 1 + n) (rest j)

-- one that is behind those in front, and not among them, is nearer if those in front, and the one behind them, go to the end
passed_is_nearer : (p q : Pick) (front back : List Pick) → (IsIn p front → ⊥) → (p ≡ q → ⊥) → IsIn p (front ++ q ∷ back) → count_before (is_consumer p) (back ++ front ++ q ∷ []) < count_before (is_consumer p) (front ++ q ∷ back)
passed_is_nearer p q front back none far i = less
  where
    behind : IsIn p front ⊎ IsIn p (q ∷ back) → IsIn p back
    behind (inl j) = absurd (none j)
    behind (inr (inl s)) = absurd (far s)
    behind (inr (inr j)) = j

    there : IsIn p back
    there = behind (in_either p front (q ∷ back) i)

    less : count_before (is_consumer p) (back ++ front ++ q ∷ []) < count_before (is_consumer p) (front ++ q ∷ back)
    less =
        let was = count_before_behind p q front back none far in
        let now = count_before_in_front p (back ++ front) (q ∷ []) (in_left p back front there) in
        let only = count_before_in_front p back front there in
        omega (arith, was, now, only)

-- ---- who is not picked

-- a consumer to which a delivery could be made while another is picked from its queue is nearer then
pub nearer_here : (old new : WithTurn) (place : ℕ) (q p : Pick) → IsFirst old q place new → IsInLine old place p → IsPickFrom old.kept place p → (p ≡ q → ⊥) → count_before_at new place p < count_before_at old place p
nearer_here old new place q p t in_line pick far =
    subst (λ (ps : List Pick). count_before (is_consumer p) ps < count_before_at old place p) (sym t.now)
    (subst (λ (ps : List Pick). count_before (is_consumer p) (t.back ++ t.front ++ q ∷ []) < count_before (is_consumer p) ps) (sym t.was)
    (passed_is_nearer p q t.front t.back (λ i. t.before p i pick) far (subst (IsIn p) t.was in_line)))

-- a line stays as far as it was
pub same_line : (old new : WithTurn) (place : ℕ) (p : Pick) → line_at new place ≡ line_at old place → count_before_at new place p ≡ count_before_at old place p
same_line old new place p same = ap (count_before (is_consumer p)) same

-- a queue that can give something, while a consumer of another queue is picked, is nearer
pub queue_nearer : (old new : WithTurn) (place queue : ℕ) (q : Pick) → IsFirst old q queue new → CanGive old place → (place ≡ queue → ⊥) → topology_kept new ≡ topology_kept old → ahead_at new place < ahead_at old place
queue_nearer old new place queue q t can far topology =
    let less = ahead_nearer (queues old) old.next queue place t.could.within can.1.within far (λ passed. t.queues_before place passed can) in
    subst (λ (n : ℕ). ahead n new.next place < ahead_at old place) (sym (ap (λ (x : Topology). length x.queues) topology))
    (subst (λ (k : ℕ). ahead (queues old) k place < ahead_at old place) (sym t.next) less)

-- ---- what a pick leaves

module _ (kept : Kept) (old new : Rounds) (x : Option Pick) where
  abbrev was : WithTurn
  was = with_turn kept old x

  abbrev now : Option Pick → WithTurn
  now picked = with_turn kept new picked

  -- whoever is picked is the first
  pub is_first : (q : Pick) (k : AreKept kept old.lines) (t : PicksFirst kept old new q) → IsFirst was q t.queue (now (Some q))
  is_first q k t = record {
    could = t.could;
    queues_before = λ at passed can. t.passed at can.0 (subst (λ (n : ℕ). IsPassed n old.next t.queue at) (sym k.lines_for) passed) can.1;
    next = t.next;
    front = t.picked.line.front;
    back = t.picked.line.back;
    was = order_at old.lines t.queue ∙ t.picked.line.was;
    now = order_at new.lines t.queue ∙ t.picked.line.now;
    before = t.picked.line.passed;
    others = λ at far. order_at new.lines at ∙ t.picked.others at far ∙ sym (order_at old.lines at);
  }

  pub picked_in_turn : (o : Option Pick) → AreKept kept old.lines → IfSome o (PicksFirst kept old new) → IfSome o (λ (q : Pick). IsPickedInTurn was q (now o))
  picked_in_turn None k picked = tt
  picked_in_turn (Some q) k picked = inr (picked.queue, is_first q k picked)

  -- if nobody is picked, lines stay
  pub lines_stay : (picked : Option Pick) → GoesOn old new → LinesStay was (now picked)
  lines_stay picked on = record { next = on.next; lines = λ at. order_at new.lines at ∙ on.same at ∙ sym (order_at old.lines at) }
