-- What is outstanding on a channel or on the channels of a connection, put back one by one, is all that was held there.
use Rattle.commands.proofs.Names.{◌≡◌, ◌∙◌, ◌+◌, ◌<◌, ◌≤◌, ℕ, zero, suc, List, [], ◌∷◌, get_or, drop, map, Bool, true, false, cond, Option, None, inl, inr, refl, sym, ap, subst, arith, is_some, option_map, and_from, and_parts, eqb-true, eq-eqb, false≢true, drop_all, drop_more, Text, Topology, IsIn, queue_names, IsAgreed, by_channel, by_connection, is_held_as, is_under, freed, freed_now, Returns, holder_of, with_returned, AreReturned, Entry, Holder, Mark, Ready, Held, open_in, outstanding_in, AreWithin, Delivery, Store, entries_named, channel_at, channel_of, running_in, outstanding_on, IsPlaced, AreSettledBy, AreReturnedFrom, AreReturnedAt, Kept, ArePlaced, broker_of, topology_kept, names_of}
use Rattle.std.proofs.Common.{◌==◌, length, Some}
use Rattle.std.specs.Prelude.{count_by}
use Rattle.model.specs.Broker as seen
use Rattle.laws.proofs.Leaving.{at_queue}
use Rattle.laws.proofs.Agreement.{IsClear, counted_in, in_freed, returned_clear, returned_shrinks}
use Rattle.channels.specs.Open.{Open}
use Rattle.channels.specs.RunningConnections.{Running}
use Rattle.commands.proofs.Placing.{none_within}
use Rattle.commands.proofs.Stepping.{IsFreed, some_same}

-- ---- one queue

not_true : (b : Bool) → (b ≡ true → ⊥) → b ≡ false
not_true true never = absurd (never refl)
not_true false never = refl

-- an entry that none of these holds stays
freed_stays : (mine : Holder → Bool) (e : Entry) → ((holder : Holder) → e.mark ≡ Held holder → mine holder ≡ false) → freed mine e ≡ e
freed_stays mine e none = go e.mark refl
  where
    go : (m : Mark) → e.mark ≡ m → elim m [ Ready ↦ e | Held g ↦ cond (mine g) (freed_now e) e ] ≡ e
    go Ready is = refl
    go (Held g) is = ap (λ (b : Bool). cond b (freed_now e) e) (none g is)

all_stay : (mine : Holder → Bool) (es : List Entry) → ((e : Entry) (holder : Holder) → IsIn e es → e.mark ≡ Held holder → mine holder ≡ false) → map (freed mine) es ≡ es
all_stay mine [] none = refl
all_stay mine (e ∷ es) none =
    ap (λ (x : Entry). x ∷ map (freed mine) es) (freed_stays mine e (λ holder is. none e holder (inl refl) is))
    ∙ ap (λ (xs : List Entry). e ∷ xs) (all_stay mine es (λ x holder i is. none x holder (inr i) is))

-- what some of these held and is free, and then what all of them held, is what all of them held
freed_through : (some mine : Holder → Bool) → ((g : Holder) → some g ≡ true → mine g ≡ true) → (e : Entry) → freed mine (freed some e) ≡ freed mine e
freed_through some mine within e = go e.mark refl
  where
    go : (m : Mark) → e.mark ≡ m → freed mine (elim m [ Ready ↦ e | Held g ↦ cond (some g) (freed_now e) e ]) ≡ freed mine e
    go Ready is = refl
    go (Held g) is = by (some g) refl
      where
        by : (b : Bool) → some g ≡ b → freed mine (cond b (freed_now e) e) ≡ freed mine e
        by false other = refl
        by true own = sym (ap (λ (m : Mark). elim m [ Ready ↦ e | Held h ↦ cond (mine h) (freed_now e) e ]) is ∙ ap (λ (b : Bool). cond b (freed_now e) e) (within g own))

all_through : (some mine : Holder → Bool) → ((g : Holder) → some g ≡ true → mine g ≡ true) → (es : List Entry) → map (freed mine) (map (freed some) es) ≡ map (freed mine) es
all_through some mine within [] = refl
all_through some mine within (e ∷ es) =
    ap (λ (x : Entry). x ∷ map (freed mine) (map (freed some) es)) (freed_through some mine within e)
    ∙ ap (λ (xs : List Entry). freed mine e ∷ xs) (all_through some mine within es)

-- ---- one channel

-- a delivery of this tag, from this queue, is among these
pub record IsAmong (tag : ℕ) (q : Text) (os : List seen.Outstanding) : Type 0 where
  pub delivery : seen.Outstanding
  pub there : IsIn delivery os
  pub tag_is : delivery.tag ≡ tag
  pub queue_is : delivery.queue ≡ q

-- what the channel holds in these queues is among these
abbrev pub AreFound : ℕ → ℕ → List seen.Outstanding → (Text → List Entry) → Type 0
AreFound c h os queues = (q : Text) (e : Entry) (holder : Holder) → IsIn e (queues q) → e.mark ≡ Held holder → by_channel c h holder ≡ true → IsAmong holder.tag q os

returned_through : (c h : ℕ) (os : List seen.Outstanding) (old new : Text → List Entry) → AreReturned c h os old new → (q : Text) → map (freed (by_channel c h)) (new q) ≡ map (freed (by_channel c h)) (old q)
returned_through c h [] old new same q = ap (map (freed (by_channel c h))) (same q)
returned_through c h (o ∷ os) old new (mid, is, more) q = returned_through c h os mid new more q ∙ ap (map (freed mine)) (is q) ∙ one q
  where
    mine : Holder → Bool
    mine = by_channel c h

    one : (q : Text) → map (freed mine) (with_returned c h old o q) ≡ map (freed mine) (old q)
    one = at_queue (λ (q : Text) (es : List Entry). map (freed mine) es ≡ map (freed mine) (old q)) old o.queue _
        (all_through (is_under (holder_of c h o)) mine (λ g under. (and_parts (mine g) (g.tag == o.tag) under).0) (old o.queue)) (λ q other. refl)

-- so what is put back of it is all that it held
pub channel_freed : (c h : ℕ) (os : List seen.Outstanding) (old new : Text → List Entry) → AreFound c h os old → AreReturned c h os old new → (q : Text) → new q ≡ map (freed (by_channel c h)) (old q)
channel_freed c h os old new found made q = sym (all_stay (by_channel c h) (new q) (λ e holder i is. not_true (by_channel c h holder) (none_left e holder i is))) ∙ returned_through c h os old new made q
  where
    none_left : (e : Entry) (holder : Holder) → IsIn e (new q) → e.mark ≡ Held holder → by_channel c h holder ≡ true → ⊥
    none_left e holder i is own =
        let was = (returned_shrinks c h os old new made).held q e holder i is in
        let among = found q was.entry holder was.there was.mark own in
        let d = among.delivery in
        let clear : IsClear c h new d = returned_clear c h os old new made d among.there in
        let held : is_held_as (holder_of c h d) e ≡ true =
        ap (λ (m : Mark). elim m [ Ready ↦ false | Held g ↦ is_under (holder_of c h d) g ]) is ∙ and_from (by_channel c h holder) (holder.tag == d.tag) own (eq-eqb holder.tag d.tag (sym among.tag_is)) in
        let one = counted_in (is_held_as (holder_of c h d)) e (new q) i held in
        let here = ap (λ (r : Text). count_by (is_held_as (holder_of c h d)) (new r)) among.queue_is in
        omega (arith, clear, one, here)

-- ---- the channels of a connection

-- a delivery to this holder, from this queue, is outstanding on the channel of its number; the first of these channels has the number n
pub record IsOnChannel (n : ℕ) (names : List Text) (slots : List (Option Open)) (q : Text) (holder : Holder) : Type 0 where
  pub place : ℕ
  pub number : holder.channel ≡ n + place
  pub among : IsAmong holder.tag q (map (outstanding_in names) (outstanding_on (get_or slots place None)))

-- what the connection holds in these queues is outstanding on one of these channels
abbrev pub AreOnChannels : ℕ → ℕ → List Text → List (Option Open) → (Text → List Entry) → Type 0
AreOnChannels c n names slots queues = (q : Text) (e : Entry) (holder : Holder) → IsIn e (queues q) → e.mark ≡ Held holder → by_connection c holder ≡ true → IsOnChannel n names slots q holder

-- those of the first channel are among its own
first_found : (c n : ℕ) (names : List Text) (slot : Option Open) (slots : List (Option Open)) (queues : Text → List Entry) → AreOnChannels c n names (slot ∷ slots) queues
    → AreFound c n (map (outstanding_in names) (outstanding_on slot)) queues
first_found c n names slot slots queues found q e holder i is own =
    let parts = and_parts (holder.connection == c) (holder.channel == n) own in
    let on = found q e holder i is parts.0 in
    let same = eqb-true holder.channel n parts.1 in
    let number = on.number in
    let first : on.place ≡ zero = omega (arith, same, number) in
    subst (λ (k : ℕ). IsAmong holder.tag q (map (outstanding_in names) (outstanding_on (get_or (slot ∷ slots) k None)))) first on.among

-- once they are put back, the others are on the channels behind it
rest_found : (c n : ℕ) (names : List Text) (slot : Option Open) (slots : List (Option Open)) (queues mid : Text → List Entry) → AreOnChannels c n names (slot ∷ slots) queues
    → ((q : Text) → mid q ≡ map (freed (by_channel c n)) (queues q)) → AreOnChannels c (n + 1) names slots mid
rest_found c n names slot slots queues mid found here q e holder i is own =
    let was = in_freed (by_channel c n) e (queues q) holder (subst (IsIn e) (here q) i) is in
    let on = found q was.0.entry holder was.0.there was.0.mark own in
    later on.place on.number on.among was.1
  where
    later : (k : ℕ) → holder.channel ≡ n + k → IsAmong holder.tag q (map (outstanding_in names) (outstanding_on (get_or (slot ∷ slots) k None))) → by_channel c n holder ≡ false → IsOnChannel (n + 1) names slots q holder
    later zero number among other =
        let same : holder.channel ≡ n = omega (arith, number) in
        absurd (false≢true (sym other ∙ and_from (holder.connection == c) (holder.channel == n) own (eq-eqb holder.channel n same)))
    later (suc k) number among other = record { place = k; number = omega (arith, number); among = among }

pub connection_freed : (c n : ℕ) (names : List Text) (slots : List (Option Open)) (s new : Store) → queue_names s.topology.queues ≡ names → AreReturnedFrom c n s slots new
    → AreOnChannels c n names slots (entries_named s) → (q : Text) → entries_named new q ≡ map (freed (by_connection c)) (entries_named s q)
connection_freed c n names [] s new same made found q =
    ap (λ (x : Store). entries_named x q) made
    ∙ sym (all_stay (by_connection c) (entries_named s q) (λ e holder i is. not_true (by_connection c holder) (λ own. (found q e holder i is own).among.there)))
connection_freed c n names (slot ∷ slots) s new same (mid, first, rest) found q =
    connection_freed c (n + 1) names slots mid new (ap (λ (t : Topology). queue_names t.queues) first.topology ∙ same) rest (rest_found c n names slot slots (entries_named s) (entries_named mid) found here) q
    ∙ ap (map (freed (by_connection c))) (here q)
    ∙ all_through (by_channel c n) (by_connection c) (λ g own. (and_parts (g.connection == c) (g.channel == n) own).0) (entries_named s q)
  where
    here : (q : Text) → entries_named mid q ≡ map (freed (by_channel c n)) (entries_named s q)
    here = channel_freed c n (map (outstanding_in names) (outstanding_on slot)) (entries_named s) (entries_named mid) (first_found c n names slot slots (entries_named s) found)
        (subst (λ (ns : List Text). AreReturned c n (map (outstanding_in ns) (outstanding_on slot)) (entries_named s) (entries_named mid)) same first.settled.1)

-- ---- a broker that agrees with itself

seen_outstanding : (names : List Text) (o : Option Open) (ch : seen.Channel) → option_map (open_in names) o ≡ Some ch → ch.outstanding ≡ map (outstanding_in names) (outstanding_on o)
seen_outstanding names None ch e = absurd (false≢true (ap is_some e))
seen_outstanding names (Some k) ch e = sym (ap (λ (x : seen.Channel). x.outstanding) (some_same (open_in names k) ch e))

-- what is held is outstanding on the channel that holds it, as it is kept
found_at : (kept : Kept) → IsAgreed (broker_of kept) → (q : Text) (e : Entry) (holder : Holder) → IsIn e (entries_named kept.store q) → e.mark ≡ Held holder
    → IsAmong holder.tag q (map (outstanding_in (names_of kept)) (outstanding_on (channel_of kept.connections holder.connection holder.channel)))
found_at kept agreed q e holder i is =
    let on = agreed.held q e holder i is in
    record {
      delivery = on.delivery;
      there = subst (IsIn on.delivery) (seen_outstanding (names_of kept) (channel_of kept.connections holder.connection holder.channel) on.channel on.there) on.outstanding;
      tag_is = on.tag;
      queue_is = on.queue;
    }

found_on_channel : (kept : Kept) (c h : ℕ) → IsAgreed (broker_of kept) → AreFound c h (map (outstanding_in (names_of kept)) (outstanding_on (channel_of kept.connections c h))) (entries_named kept.store)
found_on_channel kept c h agreed q e holder i is own =
    let parts = and_parts (holder.connection == c) (holder.channel == h) own in
    subst (λ (k : ℕ). IsAmong holder.tag q (map (outstanding_in (names_of kept)) (outstanding_on (channel_of kept.connections c k)))) (eqb-true holder.channel h parts.1)
    (subst (λ (d : ℕ). IsAmong holder.tag q (map (outstanding_in (names_of kept)) (outstanding_on (channel_of kept.connections d holder.channel)))) (eqb-true holder.connection c parts.0) (found_at kept agreed q e holder i is))

found_on_connection : (kept : Kept) (c : ℕ) (l : Option Running) → running_in kept.connections c ≡ l → IsAgreed (broker_of kept) → (q : Text) (e : Entry) (holder : Holder) → IsIn e (entries_named kept.store q) → e.mark ≡ Held holder → by_connection c holder ≡ true
    → IsAmong holder.tag q (map (outstanding_in (names_of kept)) (outstanding_on (channel_at l holder.channel)))
found_on_connection kept c l at agreed q e holder i is own =
    subst (λ (x : Option Running). IsAmong holder.tag q (map (outstanding_in (names_of kept)) (outstanding_on (channel_at x holder.channel)))) at
    (subst (λ (d : ℕ). IsAmong holder.tag q (map (outstanding_in (names_of kept)) (outstanding_on (channel_of kept.connections d holder.channel)))) (eqb-true holder.connection c own) (found_at kept agreed q e holder i is))

within_on : (t : Topology) (o : Option Open) → ((ch : Open) → o ≡ Some ch → IsPlaced t ch) → AreWithin t (outstanding_on o)
within_on t None placed = none_within t [] refl
within_on t (Some ch) placed = (placed ch refl).outstanding

pub within_at : (kept : Kept) (c : ℕ) (l : Option Running) → l ≡ running_in kept.connections c → ArePlaced kept → (h : ℕ) → AreWithin (topology_kept kept) (outstanding_on (channel_at l h))
within_at kept c l at placed h = subst (λ (x : Option Running). AreWithin (topology_kept kept) (outstanding_on (channel_at x h))) (sym at) (within_on (topology_kept kept) (channel_of kept.connections c h) (placed c h))

pub held_within : (kept : Kept) (c h : ℕ) (os : List Delivery) → ArePlaced kept → os ≡ outstanding_on (channel_of kept.connections c h) → AreWithin (topology_kept kept) os
held_within kept c h os placed held = subst (AreWithin (topology_kept kept)) (sym held) (within_on (topology_kept kept) (channel_of kept.connections c h) (placed c h))

from_topology : (c h : ℕ) (slots : List (Option Open)) (s new : Store) → AreReturnedFrom c h s slots new → new.topology ≡ s.topology
from_topology c h [] s new made = ap (λ (x : Store). x.topology) made
from_topology c h (o ∷ os) s new (mid, first, rest) = from_topology c (h + 1) os mid new rest ∙ first.topology

from_published : (c h : ℕ) (slots : List (Option Open)) (s new : Store) → AreReturnedFrom c h s slots new → new.published ≡ s.published
from_published c h [] s new made = ap (λ (x : Store). x.published) made
from_published c h (o ∷ os) s new (mid, first, rest) = from_published c (h + 1) os mid new rest ∙ first.counted

-- what is outstanding on a channel is put back
pub channel_is_freed : (old kept : Kept) (c h : ℕ) (os : List Delivery) (new : Store) → old ≡ kept → IsAgreed (broker_of kept) → os ≡ outstanding_on (channel_of old.connections c h) → AreSettledBy Returns old.store c h os [] [] new
    → IsFreed (by_channel c h) old.store new
channel_is_freed old kept c h os new e agreed held made =
    let agrees : IsAgreed (broker_of old) = subst (λ (k : Kept). IsAgreed (broker_of k)) (sym e) agreed in
    let found : AreFound c h (map (outstanding_in (names_of old)) os) (entries_named old.store) = subst (λ (ds : List Delivery). AreFound c h (map (outstanding_in (names_of old)) ds) (entries_named old.store)) (sym held) (found_on_channel old c h agrees) in
    record {
      topology = made.topology;
      published = made.counted;
      queues = channel_freed c h (map (outstanding_in (names_of old)) os) (entries_named old.store) (entries_named new) found made.settled.1;
    }

-- where no connection of a number is there, nothing is held by it
pub none_held : (kept : Kept) (c : ℕ) → running_in kept.connections c ≡ None → IsAgreed (broker_of kept) → IsFreed (by_connection c) kept.store kept.store
none_held kept c none agreed = record {
  topology = refl;
  published = refl;
  queues = λ q. sym (all_stay (by_connection c) (entries_named kept.store q) (λ e holder i is. not_true (by_connection c holder) (λ own. (found_on_connection kept c None none agreed q e holder i is own).there)));
}

-- what is outstanding on the channels of a connection is put back
running_is_freed : (kept : Kept) (c : ℕ) (l : Option Running) (new : Store) → IsAgreed (broker_of kept) → l ≡ running_in kept.connections c → AreReturnedAt c kept.store l new → IsFreed (by_connection c) kept.store new
running_is_freed kept c None new agreed at made = subst (IsFreed (by_connection c) kept.store) (sym made) (none_held kept c (sym at) agreed)
running_is_freed kept c (Some l) new agreed at made = record {
  topology = from_topology c 0 l.channels kept.store new made;
  published = from_published c 0 l.channels kept.store new made;
  queues = connection_freed c 0 (names_of kept) l.channels kept.store new refl made
      (λ r e holder i is own. record { place = holder.channel; number = omega arith; among = found_on_connection kept c (Some l) (sym at) agreed r e holder i is own });
}

pub connection_is_freed : (old kept : Kept) (c : ℕ) (l : Option Running) (new : Store) → old ≡ kept → IsAgreed (broker_of kept) → l ≡ running_in old.connections c → AreReturnedAt c old.store l new → IsFreed (by_connection c) old.store new
connection_is_freed old kept c l new e agreed = running_is_freed old c l new (subst (λ (k : Kept). IsAgreed (broker_of k)) (sym e) agreed)

-- ---- a loop over the channels of a connection

pub requeue_next : (c p : ℕ) (channels : List (Option Open)) (s new last : Store) → p < length channels → AreSettledBy Returns s c p (outstanding_on (get_or channels p None)) [] [] new
    → AreReturnedFrom c (p + 1) new (drop (p + 1) channels) last → AreReturnedFrom c p s (drop p channels) last
requeue_next c p channels s new last lt made rest = subst (λ (os : List (Option Open)). AreReturnedFrom c p s os last) (sym (drop_more channels p None lt)) (new, made, rest)

pub requeue_ends : (c p : ℕ) (channels : List (Option Open)) (s : Store) → length channels ≤ p → AreReturnedFrom c p s (drop p channels) s
requeue_ends c p channels s past = subst (λ (os : List (Option Open)). AreReturnedFrom c p s os s) (sym (drop_all p channels past)) refl
