-- Who takes from a queue, and is in its order.
use Rattle.broker.proofs.Names.{◌∙◌, ◌<◌, ℕ, zero, suc, List, [], ◌∷◌, Bool, true, false, Option, Some, None, length, map, filter, get_or, inl, inr, refl, sym, ap, arith, ◌==◌, ◌&&◌, ◌||◌, nat_lt, list_any, eqb-true, eq-eqb, lt-ltb, false≢true, Text, Topology, IsIn, Channel, Broker, queue_name, Kept, IsPickFrom, IsNewest, Pick, Queue, line_of, order, is_numbered_of, has_taker, takes_from, is_of, HasConsumer, AllAreConsumers, SameOrders}
use Rattle.std.proofs.Common.{◌≡◌}
use Rattle.std.specs.Str.{bytes_eq}
use Rattle.std.proofs.lemmas.Bool.{ltb-true}
use Rattle.std.proofs.lemmas.Slice.Eq.{bytes_eq-Decides}
use Rattle.model.specs.Broker.{Consumer}
use Rattle.commands.specs.State.{broker_of, topology_kept}
use Rattle.broker.proofs.Lists.{filter_all}
use Rattle.broker.proofs.Waking.{both, and}
use Rattle.broker.proofs.Present.{has_kept, has_picked}

-- ---- by its numbers

-- A consumer of this number that takes from this queue.
record IsOne (queue : Text) (n : ℕ) (ks : List Consumer) : Type 0 where
  one : Consumer
  among : IsIn one ks
  numbered : one.number ≡ n
  named : one.queue ≡ queue

any_one : (queue : Text) (n : ℕ) (ks : List Consumer) → list_any (is_numbered_of queue n) ks ≡ true → IsOne queue n ks
any_one queue n [] e = absurd (false≢true e)
any_one queue n (k ∷ ks) e = go (is_numbered_of queue n k) refl e (any_one queue n ks)
  where
    go : (v : Bool) → is_numbered_of queue n k ≡ v → (v || list_any (is_numbered_of queue n) ks) ≡ true → (list_any (is_numbered_of queue n) ks ≡ true → IsOne queue n ks) → IsOne queue n (k ∷ ks)
    go true is f rest =
        let parts = both (k.number == n) (bytes_eq k.queue queue) is in
        record { one = k; among = inl refl; numbered = eqb-true k.number n parts.0; named = (bytes_eq-Decides k.queue queue).0 parts.1 }
    go false is f rest = let r = rest f in record { one = r.one; among = inr r.among; numbered = r.numbered; named = r.named }

one_any : (queue : Text) (n : ℕ) (ks : List Consumer) (x : Consumer) → IsIn x ks → x.number ≡ n → x.queue ≡ queue → list_any (is_numbered_of queue n) ks ≡ true
one_any queue n [] x i e f = absurd i
one_any queue n (k ∷ ks) x (inl s) e f =
    go (k.number == n) (bytes_eq k.queue queue) (eq-eqb k.number n (ap (λ (z : Consumer). z.number) (sym s) ∙ e)) ((bytes_eq-Decides k.queue queue).1 (ap (λ (z : Consumer). z.queue) (sym s) ∙ f))
  where
    go : (u v : Bool) → u ≡ true → v ≡ true → ((u && v) || list_any (is_numbered_of queue n) ks) ≡ true
    go true true a b = refl
    go true false a b = absurd (false≢true b)
    go false v a b = absurd (false≢true a)
one_any queue n (k ∷ ks) x (inr i) e f = go (is_numbered_of queue n k) (one_any queue n ks x i e f)
  where
    go : (v : Bool) → list_any (is_numbered_of queue n) ks ≡ true → (v || list_any (is_numbered_of queue n) ks) ≡ true
    go true more = refl
    go false more = more

pub has_takes : (t : Topology) (b : Broker) (place : ℕ) (p : Pick) → HasConsumer t b place p → takes_from b (queue_name t place) p ≡ true
has_takes t b place p has =
    ap (has_taker (queue_name t place) p.number) has.was.1 ∙ one_any (queue_name t place) p.number has.was.0.consumers has.consumer has.was.2 has.numbered (sym has.named)

pub takes_has : (t : Topology) (b : Broker) (place : ℕ) (p : Pick) → place < length t.queues → takes_from b (queue_name t place) p ≡ true → HasConsumer t b place p
takes_has t b place p lt takes = go (b.channel p.connection p.channel) refl takes
  where
    go : (o : Option Channel) → b.channel p.connection p.channel ≡ o → has_taker (queue_name t place) p.number o ≡ true → HasConsumer t b place p
    go None is e = absurd (false≢true e)
    go (Some ch) is e =
        let x = any_one (queue_name t place) p.number ch.consumers e in
        record { consumer = x.one; was = (ch, is, x.among); numbered = x.numbered; within = lt; named = sym x.named }

-- whoever takes from the queue at a place passes the test, and nobody else does
pub has_of : (kept : Kept) (place : ℕ) (p : Pick) → HasConsumer (topology_kept kept) (broker_of kept) place p → is_of kept place p ≡ true
has_of kept place p has = and (nat_lt place (length (topology_kept kept).queues)) (takes_from (broker_of kept) (queue_name (topology_kept kept) place) p) (lt-ltb place (length (topology_kept kept).queues) has.within) (has_takes (topology_kept kept) (broker_of kept) place p has)

pub of_has : (kept : Kept) (place : ℕ) (p : Pick) → is_of kept place p ≡ true → HasConsumer (topology_kept kept) (broker_of kept) place p
of_has kept place p its =
    let parts = both (nat_lt place (length (topology_kept kept).queues)) (takes_from (broker_of kept) (queue_name (topology_kept kept) place) p) its in
    takes_has (topology_kept kept) (broker_of kept) place p (ltb-true place (length (topology_kept kept).queues) parts.0) parts.1

pub not_of : (kept : Kept) (place : ℕ) (p : Pick) → (HasConsumer (topology_kept kept) (broker_of kept) place p → ⊥) → is_of kept place p ≡ false
not_of kept place p none = go (is_of kept place p) refl
  where
    go : (v : Bool) → is_of kept place p ≡ v → is_of kept place p ≡ false
    go true e = absurd (none (of_has kept place p e))
    go false e = e

-- so does one to whom a delivery can be made from it
pub picked_of : (kept : Kept) (place : ℕ) (p : Pick) → IsPickFrom kept place p → is_of kept place p ≡ true
picked_of kept place p from = has_of kept place p (has_picked kept place p from)

-- ---- a consumer that is to be made

-- it is in no line yet
pub newest_absent : (kept : Kept) (lines : List (Queue Pick)) (place : ℕ) (p : Pick) → IsNewest kept p → AllAreConsumers kept lines → IsIn p (order (line_of lines place)) → ⊥
newest_absent kept lines place p newest own i =
    let less = newest p refl refl (has_kept kept place p (of_has kept place p ((own place).there p i))) in
    omega (arith, less)

-- ---- the lines of queues

pub order_at : (lines : List (Queue Pick)) (place : ℕ) → get_or (map order lines) place [] ≡ order (line_of lines place)
order_at [] place = refl
order_at (l ∷ lines) zero = refl
order_at (l ∷ lines) (suc place) = order_at lines place

-- nothing else is there
pub line_is : (kept : Kept) (lines : List (Queue Pick)) (place : ℕ) → AllAreConsumers kept lines → get_or (map order lines) place [] ≡ filter (takes_from (broker_of kept) (queue_name (topology_kept kept) place)) (order (line_of lines place))
line_is kept lines place own =
    order_at lines place
    ∙ sym (filter_all (takes_from (broker_of kept) (queue_name (topology_kept kept) place)) (order (line_of lines place))
    (λ p i. (both (nat_lt place (length (topology_kept kept).queues)) (takes_from (broker_of kept) (queue_name (topology_kept kept) place) p) ((own place).there p i)).1))

pub orders_same : (old new : List (Queue Pick)) → length new ≡ length old → SameOrders old new → map order new ≡ map order old
orders_same [] [] long same = refl
orders_same [] (s ∷ ss) long same = absurd (omega (arith, long))
orders_same (r ∷ rs) [] long same = absurd (omega (arith, long))
orders_same (r ∷ rs) (s ∷ ss) long same = cc (same zero, orders_same rs ss (omega (arith, long)) (λ at. same (suc at)))
