-- What a pick finds at a consumer.
use Rattle.broker.proofs.Names.{◌∙◌, ◌<◌, ◌≤◌, ℕ, List, [], ◌∷◌, Bool, true, false, cond, Some, length, filter, find, inl, inr, refl, sym, ap, subst, arith, ◌==◌, eq-eqb, false≢true, leb_tells, same_Some, IsIn, is_ready, MayTake, first_ready, Entry, queue_name, queue_at, HasReady, IsStoreWhole, consumer_in, Kept, names_of, IsPick, IsPickFrom, TakesAs, IsKeptAs, CannotTake, has_consumer, Pick, same_place, is_of, HasConsumer}
use Rattle.std.proofs.Common.{◌≡◌}
use Rattle.model.specs.Broker as seen
use Rattle.depot.proofs.Named.{queue_of-place}
use Rattle.channels.specs.declared.consumers.Consumer.{Consumer}
use Rattle.commands.specs.State.{broker_of, topology_kept}
use Rattle.broker.proofs.Present.{has_kept}
use Rattle.broker.proofs.Takers.{has_of, not_of, of_has}

-- ---- a queue with something ready

-- a place at or behind another that is not it is behind it
pub apart_less : (n m : ℕ) → n ≤ m → (n ≡ m → ⊥) → n < m
apart_less n m le far = elim (leb_tells m n) [
  | inl a ↦ let back = a.1 in let same : n ≡ m = omega (arith, le, back) in absurd (far same)
  | inr a ↦ let gt = a.1 in omega (arith, gt)
]

counted_found : {X : Type 0} (p : X → Bool) (xs : List X) → 0 < length (filter p xs) → (x : X) × (find p xs ≡ Some x)
counted_found p [] lt = absurd (omega (arith, lt))
counted_found {X} p (y ∷ ys) lt = go (p y) lt (counted_found p ys)
  where
    go : (v : Bool) → 0 < length (cond v (y ∷ filter p ys) (filter p ys)) → (0 < length (filter p ys) → (x : X) × (find p ys ≡ Some x)) → (x : X) × (cond v (Some y) (find p ys) ≡ Some x)
    go true l more = (y, refl)
    go false l more = more l

-- a delivery of its first message can be made to whoever may take one
picked_from : (kept : Kept) (queue : ℕ) (p : Pick) (k : Consumer) (e : Entry) → TakesAs kept p k → first_ready ((broker_of kept).queue (queue_name (topology_kept kept) k.queue)) ≡ Some e → k.queue ≡ queue → IsPickFrom kept queue p
picked_from kept queue p k e t found here = record {
  pick = (record { number = p.channel; channel = t.channel; consumer = consumer_in (names_of kept) k; taker = t.taker; entry = e; first = found }, refl, t.numbered);
  within = subst (λ (n : ℕ). n < length (topology_kept kept).queues) here t.within;
  named = ap (queue_name (topology_kept kept)) (sym here);
}

-- and so can one from a queue with something ready
pub able : (kept : Kept) (queue : ℕ) (p : Pick) (k : Consumer) → IsStoreWhole kept.store → HasReady kept.store queue → TakesAs kept p k → k.queue ≡ queue → IsPickFrom kept queue p
able kept queue p k whole ready t here =
    let first = counted_found is_ready (queue_at kept.store queue) ready in
    let lt : queue < length (topology_kept kept).queues = subst (λ (n : ℕ). n < length (topology_kept kept).queues) here t.within in
    picked_from kept queue p k first.0 t
    (ap (λ (n : ℕ). first_ready ((broker_of kept).queue (queue_name (topology_kept kept) n))) here ∙ ap first_ready (queue_of-place kept.store queue whole lt) ∙ first.1) here

-- none can be made to one who may take nothing
pub none_picked : (kept : Kept) (p : Pick) → CannotTake (broker_of kept) p → IsPick (broker_of kept) p → ⊥
none_picked kept p none (made, at, numbered) = none made.channel made.consumer (subst (λ (h : ℕ). MayTake (broker_of kept) p.connection h made.channel made.consumer) at made.taker) numbered

pub cannot_pick : (kept : Kept) (queue : ℕ) (p : Pick) → CannotTake (broker_of kept) p → IsPickFrom kept queue p → ⊥
cannot_pick kept queue p cannot from = none_picked kept p cannot from.pick

-- ---- from which queue a consumer takes

-- the only one of its numbers takes from no other queue
its_queue : (kept : Kept) (queue : ℕ) (p : Pick) (k : Consumer) (ch : seen.Channel) → IsStoreWhole kept.store → (broker_of kept).channel p.connection p.channel ≡ Some ch
    → ((other : seen.Consumer) → IsIn other ch.consumers → other.number ≡ p.number → other ≡ consumer_in (names_of kept) k) → k.queue < length (topology_kept kept).queues
    → HasConsumer (topology_kept kept) (broker_of kept) queue p → k.queue ≡ queue
its_queue kept queue p k ch whole there only within has =
    let same : has.was.0 ≡ ch = same_Some has.was.0 ch (sym has.was.1 ∙ there) in
    let one : has.consumer ≡ consumer_in (names_of kept) k = only has.consumer (subst (λ (x : seen.Channel). IsIn has.consumer x.consumers) same has.was.2) has.numbered in
    same_place (topology_kept kept) k.queue queue whole.formed.queues_distinct within has.within (sym (has.named ∙ ap (λ (x : seen.Consumer). x.queue) one))

pub kept_queue : (kept : Kept) (queue : ℕ) (p : Pick) (k : Consumer) → IsStoreWhole kept.store → IsKeptAs kept p k → HasConsumer (topology_kept kept) (broker_of kept) queue p → k.queue ≡ queue
kept_queue kept queue p k whole t has = its_queue kept queue p k t.channel whole t.there t.only t.within has

pub taken_queue : (kept : Kept) (queue : ℕ) (p : Pick) (k : Consumer) → IsStoreWhole kept.store → TakesAs kept p k → HasConsumer (topology_kept kept) (broker_of kept) queue p → k.queue ≡ queue
taken_queue kept queue p k whole t has = its_queue kept queue p k t.channel whole t.taker.there t.only t.within has

-- it takes from its own
pub kept_has : (kept : Kept) (p : Pick) (k : Consumer) → IsKeptAs kept p k → HasConsumer (topology_kept kept) (broker_of kept) k.queue p
kept_has kept p k t = record { consumer = consumer_in (names_of kept) k; was = (t.channel, t.there, t.its); numbered = t.numbered; within = t.within; named = refl }

pub taken_has : (kept : Kept) (p : Pick) (k : Consumer) → TakesAs kept p k → HasConsumer (topology_kept kept) (broker_of kept) k.queue p
taken_has kept p k t = record { consumer = consumer_in (names_of kept) k; was = (t.channel, t.taker.there, t.taker.its); numbered = t.numbered; within = t.within; named = refl }

-- one that is gone takes from none
pub gone_of : (kept : Kept) (queue : ℕ) (p : Pick) → has_consumer kept p ≡ false → is_of kept queue p ≡ false
gone_of kept queue p gone = not_of kept queue p (λ has. false≢true (sym gone ∙ has_kept kept queue p has))

-- whether a consumer takes from a queue is whether its place is the queue's
pub kept_of : (kept : Kept) (queue place : ℕ) (p : Pick) (k : Consumer) (b : Bool) → IsStoreWhole kept.store → IsKeptAs kept p k → k.queue ≡ place → (b ≡ true → place ≡ queue) → (b ≡ false → place ≡ queue → ⊥) → b ≡ is_of kept queue p
kept_of kept queue place p k true whole t here same far = sym (has_of kept queue p (subst (λ (n : ℕ). HasConsumer (topology_kept kept) (broker_of kept) n p) (here ∙ same refl) (kept_has kept p k t)))
kept_of kept queue place p k false whole t here same far = sym (not_of kept queue p (λ has. far refl (sym here ∙ kept_queue kept queue p k whole t has)))

pub taken_of : (kept : Kept) (queue place : ℕ) (p : Pick) (k : Consumer) (b : Bool) → IsStoreWhole kept.store → TakesAs kept p k → k.queue ≡ place → (b ≡ true → place ≡ queue) → (b ≡ false → place ≡ queue → ⊥) → b ≡ is_of kept queue p
taken_of kept queue place p k true whole t here same far = sym (has_of kept queue p (subst (λ (n : ℕ). HasConsumer (topology_kept kept) (broker_of kept) n p) (here ∙ same refl) (taken_has kept p k t)))
taken_of kept queue place p k false whole t here same far = sym (not_of kept queue p (λ has. far refl (sym here ∙ taken_queue kept queue p k whole t has)))

-- whoever may be delivered to may be from its queue
pub from_its : (kept : Kept) (p : Pick) (k : Consumer) → TakesAs kept p k → IsPick (broker_of kept) p → IsPickFrom kept k.queue p
from_its kept p k t (made, at, numbered) =
    let same : made.channel ≡ t.channel = same_Some made.channel t.channel (sym made.taker.there ∙ ap (λ (h : ℕ). (broker_of kept).channel p.connection h) at ∙ t.taker.there) in
    let one : made.consumer ≡ consumer_in (names_of kept) k = t.only made.consumer (subst (λ (x : seen.Channel). IsIn made.consumer x.consumers) same made.taker.its) numbered in
    record { pick = (made, at, numbered); within = t.within; named = sym (ap (λ (x : seen.Consumer). x.queue) one) }

-- one that may take from another queue doesn't take from this one
pub elsewhere : (kept : Kept) (queue place : ℕ) (p : Pick) (k : Consumer) → IsStoreWhole kept.store → TakesAs kept p k → k.queue ≡ place → (place == queue) ≡ false → is_of kept queue p ≡ true → ⊥
elsewhere kept queue place p k whole t here far its = false≢true (sym far ∙ eq-eqb place queue (sym here ∙ taken_queue kept queue p k whole t (of_has kept queue p its)))
