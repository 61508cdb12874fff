-- Queues at other places: each element of a list is changed in turn; tags, numbers and counts stay, and so do names.
use Rattle.channels.proofs.Imports.{◌≡◌, ℕ, zero, suc, ◌+◌, ◌<◌, List, [], ◌∷◌, ◌++◌, length, get_or, set, map, take, drop, refl, sym, ap, ◌∙◌, arith, AllByRecursion, length-map, drop-map, Text, is_to, is_delivery, count_to, taker_of, given_tag, AreInOrder, is_waiting, waiting, outstanding_in, ConsumerCounts, CountsAgree, AreNumbered, NoneAbove, consumers_of, counts_of, Open, consumer_in, open_in, outstanding_moved, consumer_moved, counted_moved, open_moved, IsNamedAlike, AreNamedAlike, Delivery, Consumer, CountedConsumer}
use Rattle.model.specs.Broker as seen
use Rattle.laws.proofs.Counts.{count-map}
use Rattle.channels.proofs.Mapped.{filter-map}

-- ---- a list changed in turn

-- the first i of a list changed, the others as they were
abbrev pub changed_to : {X : Type 0} → (X → X) → ℕ → List X → List X
changed_to f i xs = map f (take i xs) ++ drop i xs

one_more_changed : {X : Type 0} (f : X → X) (xs : List X) (i : ℕ) (d : X) → i < length xs → set (changed_to f i xs) i (f (get_or (changed_to f i xs) i d)) ≡ changed_to f (suc i) xs
one_more_changed f [] i d lt = absurd (omega arith)
one_more_changed f (x ∷ xs) zero d lt = refl
one_more_changed {X = X} f (x ∷ xs) (suc i) d lt = ap (λ (ys : List X). f x ∷ ys) (one_more_changed f xs i d (omega arith))

pub one_changed : {X : Type 0} (f : X → X) (xs : List X) (i : ℕ) (d : X) → i < length xs → set (changed_to f i xs) i (f (get_or (changed_to f i xs) i d)) ≡ changed_to f (i + 1) xs
one_changed f xs i d lt = let e : suc i ≡ i + 1 = omega arith in one_more_changed f xs i d lt ∙ ap (λ (n : ℕ). changed_to f n xs) e

-- ---- what is outstanding

given_stays : (places : List ℕ) (os : List Delivery) (i : ℕ) (d : Delivery) → given_tag (get_or (map (outstanding_moved places) os) i d) ≡ given_tag (get_or os i d)
given_stays places [] i d = refl
given_stays places (o ∷ os) zero d = refl
given_stays places (o ∷ os) (suc i) d = given_stays places os i d

pub moved_order : (last : ℕ) (places : List ℕ) (os : List Delivery) → AreInOrder last os → AreInOrder last (map (outstanding_moved places) os)
moved_order last places os order = record {
  rises = λ i j d lt within.
      let l = length-map os (outstanding_moved places) in
      let a = given_stays places os i d in
      let b = given_stays places os j d in
      let r = order.rises i j d lt (omega arith) in
      omega arith;
  most = λ k d within. let l = length-map os (outstanding_moved places) in let a = given_stays places os k d in let m = order.most k d (omega arith) in omega arith;
}

pub moved_waiting : (places : List ℕ) (os : List Delivery) → waiting (map (outstanding_moved places) os) ≡ map (outstanding_moved places) (waiting os)
moved_waiting places os = filter-map (outstanding_moved places) is_waiting os

-- behind the start, as everywhere
pub drop_moved : (places : List ℕ) (start : ℕ) (os : List Delivery) → drop start (map (outstanding_moved places) os) ≡ map (outstanding_moved places) (drop start os)
drop_moved places start os = drop-map (outstanding_moved places) start os

-- ---- consumers and their counts

pub moved_numbered : (places : List ℕ) (next : ℕ) (cs : List Consumer) → AreNumbered next cs → AreNumbered next (map (consumer_moved places) cs)
moved_numbered places next [] n = tt
moved_numbered places next (c ∷ cs) (lt, (above, n)) = (lt, (each cs above, moved_numbered places next cs n))
  where
    each : (ds : List Consumer) → AllByRecursion (λ (d : Consumer). c.number < d.number) ds → AllByRecursion (λ (d : Consumer). c.number < d.number) (map (consumer_moved places) ds)
    each [] a = tt
    each (d ∷ ds) (l, a) = (l, each ds a)

pub moved_consumers : (places : List ℕ) (ss : List CountedConsumer) → consumers_of (map (counted_moved places) ss) ≡ map (consumer_moved places) (consumers_of ss)
moved_consumers places [] = refl
moved_consumers places (s ∷ ss) = ap (λ (cs : List Consumer). consumer_moved places s.consumer ∷ cs) (moved_consumers places ss)

pub moved_counts : (places : List ℕ) (ss : List CountedConsumer) → counts_of (map (counted_moved places) ss) ≡ counts_of ss
moved_counts places [] = refl
moved_counts places (s ∷ ss) = ap (λ (ns : List ℕ). s.held ∷ ns) (moved_counts places ss)

-- as many were given to each, and to all
counts_moved : (places : List ℕ) (os : List Delivery) (cs : List Consumer)
    → map (λ (c : Consumer). count_to taker_of c.number (map (outstanding_moved places) os)) (map (consumer_moved places) cs) ≡ map (λ (c : Consumer). count_to taker_of c.number os) cs
counts_moved places os [] = refl
counts_moved places os (c ∷ cs) =
    ap (λ (n : ℕ). n ∷ map (λ (d : Consumer). count_to taker_of d.number (map (outstanding_moved places) os)) (map (consumer_moved places) cs)) (count-map (λ (o : Delivery). is_to c.number o.by) (outstanding_moved places) (λ o. refl) os)
    ∙ ap (λ (ns : List ℕ). count_to taker_of c.number os ∷ ns) (counts_moved places os cs)

pub moved_counted : (places : List ℕ) (s n : ConsumerCounts) (os : List Delivery) → n.consumers ≡ map (consumer_moved places) s.consumers → n.held ≡ s.held → n.given ≡ s.given → CountsAgree s os → CountsAgree n (map (outstanding_moved places) os)
moved_counted places s n os consumers held given k = record {
  each = held ∙ k.each ∙ sym (counts_moved places os s.consumers) ∙ ap (map (λ (c : Consumer). count_to taker_of c.number (map (outstanding_moved places) os))) (sym consumers);
  all = given ∙ k.all ∙ sym (count-map (λ (o : Delivery). is_delivery o.by) (outstanding_moved places) (λ o. refl) os);
}

-- nobody of a greater number was given any
pub none_above_moved : (most : ℕ) (places : List ℕ) (os : List Delivery) → NoneAbove most os → NoneAbove most (map (outstanding_moved places) os)
none_above_moved most places os none number more = count-map (λ (o : Delivery). is_to number o.by) (outstanding_moved places) (λ o. refl) os ∙ none number more

-- ---- names

outstanding_named : (old new : List Text) (places : List ℕ) (os : List Delivery) → AllByRecursion (λ (o : Delivery). IsNamedAlike old new places o.queue) os
    → map (outstanding_in new) (map (outstanding_moved places) os) ≡ map (outstanding_in old) os
outstanding_named old new places [] a = refl
outstanding_named old new places (o ∷ os) (e, a) =
    ap (λ (q : Text). record { tag = o.tag; queue = q; by = o.by } ∷ map (outstanding_in new) (map (outstanding_moved places) os)) e
    ∙ ap (λ (zs : List seen.Outstanding). outstanding_in old o ∷ zs) (outstanding_named old new places os a)

consumers_named : (old new : List Text) (places : List ℕ) (cs : List Consumer) → AllByRecursion (λ (c : Consumer). IsNamedAlike old new places c.queue) cs
    → map (consumer_in new) (map (consumer_moved places) cs) ≡ map (consumer_in old) cs
consumers_named old new places [] a = refl
consumers_named old new places (c ∷ cs) (e, a) =
    ap (λ (q : Text). record { number = c.number; tag = c.tag; queue = q; no_ack = c.no_ack; limit = c.limit } ∷ map (consumer_in new) (map (consumer_moved places) cs)) e
    ∙ ap (λ (zs : List seen.Consumer). consumer_in old c ∷ zs) (consumers_named old new places cs a)

-- a channel at the new places under the new names is what it was under the old ones
pub open_named : (old new : List Text) (places : List ℕ) (ch : Open) → AreNamedAlike old new places ch → open_in new (open_moved places ch) ≡ open_in old ch
open_named old new places ch a =
    ap (λ (zs : List seen.Consumer). record (open_in old ch) { consumers = zs; outstanding = map (outstanding_in new) (map (outstanding_moved places) ch.given.outstanding) }) (consumers_named old new places ch.given.consumers a.consumers)
    ∙ ap (λ (zs : List seen.Outstanding). record (open_in old ch) { outstanding = zs }) (outstanding_named old new places ch.given.outstanding a.outstanding)
