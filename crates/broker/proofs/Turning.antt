-- A broker with its rounds, as its callers see it: who is in the orders of its queues.
use Rattle.broker.proofs.Names.{◌∙◌, ◌<◌, ◌≤◌, ◌++◌, ℕ, List, [], ◌∷◌, Bool, true, Option, length, filter, inl, inr, sym, ap, subst, arith, append-nil, filter-append, Topology, IsIn, queue_name, Kept, Pick, count_before, AllDistinct, Leavers, Queue, Rounds, line_of, order, is_consumer, takes_from, is_of, remains, HasConsumer, AllAreConsumers, AllAddTheirOwn, AreKept, LeaveLines, GoesOn, with_turn, AllInLine, NobodyIsPutBack, NoneIsLater, WaitersAreConsumers, count_before_at, line_at}
use Rattle.std.proofs.Common.{◌≡◌}
use Rattle.commands.specs.State.{broker_of, topology_kept}
use Rattle.broker.proofs.Lists.{fewer, filter_twice, stays}
use Rattle.broker.proofs.Members.{one_consumer, same_consumer}
use Rattle.broker.proofs.Nearer.{count_before_in_front}
use Rattle.broker.proofs.Takers.{has_of, of_has, has_takes, takes_has, line_is, order_at, orders_same}

-- ---- who is in an order

-- whoever takes from a queue is in its order, and nobody else is
pub all_in_line : (kept : Kept) (r : Rounds) (x : Option Pick) → AreKept kept r.lines → AllInLine (with_turn kept r x)
all_in_line kept r x k place p = (into, out)
  where
    into : HasConsumer (topology_kept kept) (broker_of kept) place p → IsIn p (line_at (with_turn kept r x) place)
    into has = subst (IsIn p) (sym (order_at r.lines place)) (k.joined place p has)

    out : IsIn p (line_at (with_turn kept r x) place) → HasConsumer (topology_kept kept) (broker_of kept) place p
    out i = of_has kept place p ((k.own place).there p (subst (IsIn p) (order_at r.lines place) i))

-- and is there once
pub waiters_own : (kept : Kept) (r : Rounds) (x : Option Pick) → AreKept kept r.lines → WaitersAreConsumers (with_turn kept r x)
waiters_own kept r x k = record {
  complete = all_in_line kept r x k;
  once = λ place. subst (λ (ps : List Pick). AllDistinct ps) (sym (order_at r.lines place)) (k.own place).once;
}

-- where all go on as before, callers see nothing of it
pub same_turns : (kept : Kept) (old new : Rounds) (x : Option Pick) → GoesOn old new → with_turn kept new x ≡ with_turn kept old x
same_turns kept old new x on = let lines = orders_same old.lines new.lines on.len on.same in let next = on.next in cc (lines, next)

-- ---- events

-- of the existing consumers, those in an order keep it, and whoever was added is behind them
abbrev pub GoRound : Kept → List (Queue Pick) → List (Queue Pick) → Type 0
GoRound kept old new = (place : ℕ) (test : Pick → Bool) → ((p : Pick) → test p ≡ true → is_of kept place p ≡ true)
    → (came : List Pick) × (filter test (order (line_of new place)) ≡ filter test (order (line_of old place)) ++ came)

-- where one comes in
pub round_joined : (kept : Kept) (old new : List (Queue Pick)) → AllAddTheirOwn kept old new → GoRound kept old new
round_joined kept old new adds place test its = elim (adds place) [
  | inl same ↦ ([], ap (filter test) same ∙ sym (append-nil (filter test (order (line_of old place)))))
  | inr c ↦ (filter test (c.newcomer ∷ []), ap (filter test) c.line ∙ filter-append test (order (line_of old place)) (c.newcomer ∷ []))
]

-- and where others leave
pub round_left : (kept : Kept) (who : Leavers) (old mid new : List (Queue Pick)) → ((place : ℕ) (p : Pick) → is_of kept place p ≡ true → remains who p ≡ true) → GoRound kept old mid → LeaveLines who mid new → GoRound kept old new
round_left kept who old mid new there keeps left place test its =
    let first = keeps place test its in
    (first.0, ap (filter test) (left place) ∙ filter_twice test (remains who) (order (line_of mid place)) (λ p e. there place p (its p e)) ∙ first.1)

-- where all who were there are gone round as before, nobody has more before it
module _ (old new : Kept) (r s : Rounds) (x y : Option Pick) (is : topology_kept new ≡ topology_kept old) (k : AreKept old r.lines) (own : AllAreConsumers new s.lines) (keeps : GoRound new r.lines s.lines) where
  abbrev pub t : Topology
  t = topology_kept old

  -- the line after an event, of the same queue
  line_then : (place : ℕ) → line_at (with_turn new s y) place ≡ filter (takes_from (broker_of new) (queue_name t place)) (order (line_of s.lines place))
  line_then place = line_is new s.lines place own ∙ ap (λ (z : Topology). filter (takes_from (broker_of new) (queue_name z place)) (order (line_of s.lines place))) is

  -- whoever takes from the queue after it passes the test
  there : (place : ℕ) → place < length t.queues → (q : Pick) → takes_from (broker_of new) (queue_name t place) q ≡ true → is_of new place q ≡ true
  there place lt q e = has_of new place q (subst (λ (z : Topology). HasConsumer z (broker_of new) place q) (sym is) (takes_has t (broker_of new) place q lt e))

  -- a consumer that was there and still is has no greater number before it
  pub not_later : (place : ℕ) (p : Pick) → HasConsumer t (broker_of old) place p → HasConsumer t (broker_of new) place p
      → count_before_at (with_turn new s y) place p ≤ count_before_at (with_turn old r x) place p
  not_later place p had has =
      let f = takes_from (broker_of new) (queue_name t place) in
      let g = takes_from (broker_of old) (queue_name t place) in
      let lt = has.within in
      let line = order (line_of r.lines place) in
      let round = keeps place f (λ q e. there place lt q e) in
      let own_there : (q : Pick) → IsIn q line → f q ≡ true → g q ≡ true = λ q i e. has_takes t (broker_of old) place q (of_has old place q ((k.own place).there q i)) in
      let among = stays f p line (k.joined place p had) (has_takes t (broker_of new) place p has) in
      let only = count_before_in_front p (filter f line) round.0 among in
      let le = fewer (is_consumer p) p (one_consumer p) (same_consumer p) f g line own_there (λ v. has_takes t (broker_of new) place p has) in
      subst (λ (ps : List Pick). count_before (is_consumer p) ps ≤ count_before_at (with_turn old r x) place p) (sym (line_then place ∙ round.1))
      (subst (λ (ps : List Pick). count_before (is_consumer p) (filter f line ++ round.0) ≤ count_before (is_consumer p) ps) (sym (line_is old r.lines place k.own)) (omega (arith, only, le)))

  -- so nobody is put back
  pub none_back : s.next ≡ r.next → NobodyIsPutBack (with_turn old r x) (with_turn new s y)
  none_back next = record {
    next = next;
    lines = λ place p had has. not_later place p had (subst (λ (z : Topology). HasConsumer z (broker_of new) place p) is has);
  }

  -- nor does anybody come in, where nobody is new
  pub none_later : s.next ≡ r.next → ((place : ℕ) (q : Pick) → HasConsumer t (broker_of new) place q → HasConsumer t (broker_of old) place q) → NoneIsLater (with_turn old r x) (with_turn new s y)
  none_later next came = record {
    next = next;
    took = λ place p has. came place p (subst (λ (z : Topology). HasConsumer z (broker_of new) place p) is has);
    lines = λ place p has.
        let there' = subst (λ (z : Topology). HasConsumer z (broker_of new) place p) is has in
        not_later place p (came place p there') there';
  }
