-- The consumers of each channel stay named, whatever the broker does, and what is delivered to them can be addressed.
use Rattle.laws.proofs.Names.{◌≡◌, ℕ, zero, suc, ◌≤◌, List, [], ◌∷◌, Bool, true, false, cond, refl, sym, ap, subst, ◌∙◌, length, length-append, get_or, arith, None, inl, inr, is_some, nat_le, codes, decimal, ◌==◌, ◌&&◌, ◌||◌, AllByRecursion, AllPairs, list_any, bytes_eq, leb-true, leb-false, ne_eqb, false≢true, same_Some, length-decimal-le, AllPairs-filter, all_pairs_push, Text, Topology, IsIn, Consumer, Outstanding, Channel, Broker, new_channel, queue_named, is_ready, with_pair, with_row, is_refused, outstanding_after, is_tagged, is_in_use, server_tag, next_free, tag_for, is_tag_taken, has_no_tag_left, consumer_of, with_consumer, without_consumer, tag_of, greatest, Refusal, Of_channel, channel_or_new, or_else, refusal_in, refusal_of_asking, refusal_of_tag, refusal_of_many, refusal_of_consume, event_connection, IsSaid, IsGivenBelow, AreNamedOn, AreNamed, IsCarried, IsAddressed, Entry, Taker, Send, Event, Consume, Get, Note, ConsumersStayNamed, DeliveriesAreAddressed}
use Rattle.std.proofs.Common.{◌+◌, ◌<◌, filter, not, Option, Some}
use Rattle.std.specs.Prelude.{if◌then◌else◌}
use Rattle.model.specs.Settling.{kept, takes}
use Rattle.model.specs.Prefetch.{is_to, has_tag_left}
use Rattle.model.specs.declared.messages.Taker.TheVariants as taker
use Rattle.laws.proofs.Counts.{count_none, all-append, all_each, all_in, filter_all}
use Rattle.laws.proofs.Leaving.{find_in}
use Rattle.laws.proofs.Deeds.{Deed, changes, enters, gives, settles, purges, nothing, alters, ends, clears, renews, Serves, as_before, one_more, fewer, HoldsAlike, IsTakerOf, acted}
use Rattle.laws.proofs.Tags.{next_is_free}

-- ---- tags of the server

-- a tag of the server is short
pub server_short : (n : ℕ) → n < 18446744073709551615 → length (server_tag n) < 256
server_short n lt =
    let digits = length-decimal-le 20 n (omega arith) (omega (arith, lt)) (omega (arith, lt)) in
    let all = length-append (codes "amq.ctag-") (decimal n) in
    omega (arith, digits, all)

-- ---- what is not refused

first_none : (a b : Option Refusal) → or_else a b ≡ None → (a ≡ None) × (b ≡ None)
first_none None b e = (refl, e)
first_none (Some r) b e = absurd (false≢true (sym (ap is_some e)))

is_not : (v : Bool) (r : Refusal) → (if v then Some r else None) ≡ None → v ≡ false
is_not true r e = absurd (false≢true (sym (ap is_some e)))
is_not false r e = refl

-- a consume that is not refused
record Accepted (t : Topology) (ch : Channel) (m : Consume) : Type 0 where
  queue : is_some (queue_named t.queues m.queue) ≡ true
  free : is_tag_taken ch m.consumer_tag ≡ false
  few : nat_le 256 (length ch.consumers) ≡ false
  left : has_no_tag_left ch m.consumer_tag ≡ false

accepted : (t : Topology) (ch : Channel) (m : Consume) → refusal_of_consume t ch m ≡ None → Accepted t ch m
accepted t ch m e =
    let queue = first_none (refusal_in t m.queue) _ e in
    let asking = first_none (refusal_of_asking m) _ queue.1 in
    let tag = first_none (refusal_of_tag ch m.consumer_tag) _ asking.1 in
    let many = first_none (refusal_of_many ch) _ tag.1 in
    record {
      queue = found (is_some (queue_named t.queues m.queue)) queue.0;
      free = is_not _ _ tag.0;
      few = is_not _ _ many.0;
      left = second (ch.next_number == greatest) (has_no_tag_left ch m.consumer_tag) (is_not _ _ many.1);
    }
  where
    found : (v : Bool) → (if v then None else Some (Of_channel 404)) ≡ None → v ≡ true
    found true e = refl
    found false e = absurd (false≢true (sym (ap is_some e)))

    second : (a b : Bool) → (a || b) ≡ false → b ≡ false
    second true b e = absurd (false≢true (sym e))
    second false b e = e

-- the tag of the new consumer is free, and has a spelling
record GoodTag (ch : Channel) (tag : Text) : Type 0 where
  free : is_in_use tag ch.consumers ≡ false
  short : length tag < 256

good_tag : (ch : Channel) (given : Text) → length given < 256 → is_tag_taken ch given ≡ false → has_no_tag_left ch given ≡ false → GoodTag ch (tag_for ch given)
good_tag ch [] short free left = let lt = leb-false 18446744073709551615 (next_free ch) left in record { free = next_is_free ch lt; short = server_short (next_free ch) lt }
good_tag ch (b ∷ bs) short free left = record { free = free; short = short }

-- ---- what is outstanding

given_later : (next : ℕ) (by : Taker) → IsGivenBelow next by → IsGivenBelow (next + 1) by
given_later next taker.Get i = tt
given_later next (taker.Consumer number) lt = omega (arith, lt)

-- one message more is outstanding, or none
given_more : (no_ack : Bool) (next tag : ℕ) (queue : Text) (by : Taker) (os : List Outstanding) → IsGivenBelow next by → AllByRecursion (λ (o : Outstanding). IsGivenBelow next o.by) os
    → AllByRecursion (λ (o : Outstanding). IsGivenBelow next o.by) (outstanding_after no_ack tag queue by os)
given_more true next tag queue by os i a = a
given_more false next tag queue by os i a = all-append _ os _ a (i, tt)

given_kept : (next tag : ℕ) (multiple : Bool) (os : List Outstanding) → AllByRecursion (λ (o : Outstanding). IsGivenBelow next o.by) os → AllByRecursion (λ (o : Outstanding). IsGivenBelow next o.by) (kept tag_of tag multiple os)
given_kept next tag multiple os a = go (is_refused tag_of tag multiple os)
  where
    go : (v : Bool) → AllByRecursion (λ (o : Outstanding). IsGivenBelow next o.by) (if v then os else filter (λ x. not (takes tag_of tag multiple x)) os)
    go true = a
    go false = filter_all _ (λ (x : Outstanding). not (takes tag_of tag multiple x)) os a

-- nothing was given to the next one
none_to_next : (next : ℕ) (by : Taker) → IsGivenBelow next by → is_to next by ≡ false
none_to_next next taker.Get i = refl
none_to_next next (taker.Consumer number) lt = ne_eqb number next (λ e. omega (arith, lt, e))

-- ---- single channels

named_new : (t : Topology) (ch : Channel) → ch.consumers ≡ [] → ch.outstanding ≡ [] → AreNamedOn t ch
named_new t ch e none = record {
  queues = subst (λ (ks : List Consumer). AllByRecursion (λ (k : Consumer). is_some (queue_named t.queues k.queue) ≡ true) ks) (sym e) tt;
  spelled = subst (λ (ks : List Consumer). AllByRecursion (λ (k : Consumer). length k.tag < 256) ks) (sym e) tt;
  distinct = subst (λ (ks : List Consumer). AllPairs (λ (a b : Consumer). bytes_eq a.tag b.tag ≡ false) ks) (sym e) (λ i j x lt le. absurd (omega arith));
  rising = subst (λ (ks : List Consumer). AllPairs (λ (a b : Consumer). a.number < b.number) ks) (sym e) (λ i j x lt le. absurd (omega arith));
  before = subst (λ (ks : List Consumer). AllByRecursion (λ (k : Consumer). k.number < ch.next_number) ks) (sym e) tt;
  given = subst (λ (os : List Outstanding). AllByRecursion (λ (o : Outstanding). IsGivenBelow ch.next_number o.by) os) (sym none) tt;
  few = let n = ap length e in omega (arith, n);
}

-- another record of the channel with the same consumers
named_as : (t : Topology) (ch other : Channel) → other.consumers ≡ ch.consumers → other.next_number ≡ ch.next_number → AllByRecursion (λ (o : Outstanding). IsGivenBelow ch.next_number o.by) other.outstanding → AreNamedOn t ch → AreNamedOn t other
named_as t ch other e next given n = record {
  queues = subst (λ (ks : List Consumer). AllByRecursion (λ (k : Consumer). is_some (queue_named t.queues k.queue) ≡ true) ks) (sym e) n.queues;
  spelled = subst (λ (ks : List Consumer). AllByRecursion (λ (k : Consumer). length k.tag < 256) ks) (sym e) n.spelled;
  distinct = subst (λ (ks : List Consumer). AllPairs (λ (a b : Consumer). bytes_eq a.tag b.tag ≡ false) ks) (sym e) n.distinct;
  rising = subst (λ (ks : List Consumer). AllPairs (λ (a b : Consumer). a.number < b.number) ks) (sym e) n.rising;
  before = subst (λ (m : ℕ). AllByRecursion (λ (k : Consumer). k.number < m) other.consumers) (sym next) (subst (λ (ks : List Consumer). AllByRecursion (λ (k : Consumer). k.number < ch.next_number) ks) (sym e) n.before);
  given = subst (λ (m : ℕ). AllByRecursion (λ (o : Outstanding). IsGivenBelow m o.by) other.outstanding) (sym next) given;
  few = subst (λ (ks : List Consumer). length ks ≤ 256) (sym e) n.few;
}

-- what none passes, each fails
each_fails : (p : Consumer → Bool) (ks : List Consumer) → list_any p ks ≡ false → AllByRecursion (λ (k : Consumer). p k ≡ false) ks
each_fails p [] e = tt
each_fails p (k ∷ ks) e = go (p k) refl (each_fails p ks) e
  where
    go : (v : Bool) → p k ≡ v → (list_any p ks ≡ false → AllByRecursion (λ (x : Consumer). p x ≡ false) ks) → (v || list_any p ks) ≡ false → (p k ≡ false) × AllByRecursion (λ (x : Consumer). p x ≡ false) ks
    go true is rest e = absurd (false≢true (sym e))
    go false is rest e = (is, rest e)

in_at : (ks : List Consumer) (i : ℕ) (d : Consumer) → i < length ks → IsIn (get_or ks i d) ks
in_at [] i d lt = absurd (omega arith)
in_at (k ∷ ks) zero d lt = inl refl
in_at (k ∷ ks) (suc i) d lt = inr (in_at ks i d (omega arith))

-- one consumer more
named_more : (t : Topology) (ch : Channel) (m : Consume) → Accepted t ch m → length m.consumer_tag < 256 → AreNamedOn t ch → AreNamedOn t (with_consumer ch m)
named_more t ch m is short n = record {
  queues = all-append _ ch.consumers (k ∷ []) n.queues (is.queue, tt);
  spelled = all-append _ ch.consumers (k ∷ []) n.spelled (tag.short, tt);
  distinct = all_pairs_push (λ (a b : Consumer). bytes_eq a.tag b.tag ≡ false) ch.consumers k n.distinct (λ i d lt. all_in (λ (a : Consumer). bytes_eq a.tag k.tag ≡ false) (get_or ch.consumers i d) ch.consumers (each_fails (is_tagged k.tag) ch.consumers tag.free) (in_at ch.consumers i d lt));
  rising = all_pairs_push (λ (a b : Consumer). a.number < b.number) ch.consumers k n.rising (λ i d lt. all_in (λ (a : Consumer). a.number < ch.next_number) (get_or ch.consumers i d) ch.consumers n.before (in_at ch.consumers i d lt));
  before = all-append (λ (a : Consumer). a.number < ch.next_number + 1) ch.consumers (k ∷ []) (all_each _ _ (λ a lt. omega (arith, lt)) ch.consumers n.before) (omega arith, tt);
  given = all_each _ _ (λ o i. given_later ch.next_number o.by i) ch.outstanding n.given;
  few = let more = length-append ch.consumers (k ∷ []) in let lt = leb-false 256 (length ch.consumers) is.few in omega (arith, more, lt);
}
  where
    k : Consumer
    k = consumer_of ch m

    tag : GoodTag ch k.tag
    tag = good_tag ch m.consumer_tag short is.free is.left

fewer_left : (p : Consumer → Bool) (ks : List Consumer) → length (filter p ks) ≤ length ks
fewer_left p [] = omega arith
fewer_left p (k ∷ ks) = go (p k) (fewer_left p ks)
  where
    go : (v : Bool) → length (filter p ks) ≤ length ks → length (cond v (k ∷ filter p ks) (filter p ks)) ≤ length (k ∷ ks)
    go true le = omega (arith, le)
    go false le = omega (arith, le)

-- some consumers fewer
named_fewer : (t : Topology) (ch : Channel) (tag : Text) → AreNamedOn t ch → AreNamedOn t (without_consumer ch tag)
named_fewer t ch tag n = record {
  queues = filter_all _ (λ (k : Consumer). not (is_tagged tag k)) ch.consumers n.queues;
  spelled = filter_all _ (λ (k : Consumer). not (is_tagged tag k)) ch.consumers n.spelled;
  distinct = AllPairs-filter (λ (a b : Consumer). bytes_eq a.tag b.tag ≡ false) (λ (k : Consumer). not (is_tagged tag k)) ch.consumers n.distinct;
  rising = AllPairs-filter (λ (a b : Consumer). a.number < b.number) (λ (k : Consumer). not (is_tagged tag k)) ch.consumers n.rising;
  before = filter_all _ (λ (k : Consumer). not (is_tagged tag k)) ch.consumers n.before;
  given = n.given;
  few = let le = fewer_left (λ (k : Consumer). not (is_tagged tag k)) ch.consumers in let few = n.few in omega (arith, le, few);
}

-- ---- all cases

module _ (t : Topology) (old new : Broker) (a : AreNamed t old) where
  abbrev mine : ℕ → ℕ → Channel
  mine c h = channel_or_new (old.channel c h)

  named_mine : (c h : ℕ) → AreNamedOn t (mine c h)
  named_mine c h = go (old.channel c h) refl
    where
      go : (o : Option Channel) → old.channel c h ≡ o → AreNamedOn t (channel_or_new o)
      go None e = named_new t new_channel refl refl
      go (Some ch) e = a c h ch e

  same : ((c h : ℕ) → new.channel c h ≡ old.channel c h) → AreNamed t new
  same is c h ch e = a c h ch (sym (is c h) ∙ e)

  with_this : (c h : ℕ) (x : Option Channel) → ((d k : ℕ) → new.channel d k ≡ with_pair old.channel c h x d k) → ((ch : Channel) → x ≡ Some ch → AreNamedOn t ch) → AreNamed t new
  with_this c h x is good d k ch e = go (d == c) (k == h) (sym (is d k) ∙ e)
    where
      go : (v w : Bool) → (if v && w then x else old.channel d k) ≡ Some ch → AreNamedOn t ch
      go true true e = good ch e
      go true false e = a d k ch e
      go false w e = a d k ch e

  with_some : (c h : ℕ) (ch : Channel) → ((d k : ℕ) → new.channel d k ≡ with_pair old.channel c h (Some ch) d k) → AreNamedOn t ch → AreNamed t new
  with_some c h ch is good = with_this c h (Some ch) is (λ x e. subst (AreNamedOn t) (same_Some ch x e) good)

  with_these : (c : ℕ) (row : ℕ → Option Channel) → ((d k : ℕ) → new.channel d k ≡ with_row old.channel c row d k) → ((k : ℕ) (ch : Channel) → row k ≡ Some ch → AreNamedOn t ch) → AreNamed t new
  with_these c row is good d k ch e = go (d == c) (sym (is d k) ∙ e)
    where
      go : (v : Bool) → (if v then row k else old.channel d k) ≡ Some ch → AreNamedOn t ch
      go true e = good k ch e
      go false e = a d k ch e

  -- where the event makes or ends consumers of a channel
  served : {e : Event} (c h : ℕ) (now : Channel) → IsSaid e → HoldsAlike (mine c h) now → Serves t e c h (mine c h) now → AreNamedOn t now
  served c h now said alike (as_before consumers next) = named_as t (mine c h) now consumers next (subst (AllByRecursion (λ (o : Outstanding). IsGivenBelow (mine c h).next_number o.by)) (sym alike.outstanding) (named_mine c h).given) (named_mine c h)
  served c h now said alike (one_more m content is unrefused one) = subst (AreNamedOn t) (sym one) (named_more t (mine c h) m (accepted t (mine c h) m unrefused) (subst IsSaid is said).0.1.1.0 (named_mine c h))
  served c h now said alike (fewer tag one) = subst (AreNamedOn t) (sym one) (named_fewer t (mine c h) tag (named_mine c h))

  taker_below : (ch : Channel) (by : Taker) → AreNamedOn t ch → IsTakerOf ch by → IsGivenBelow ch.next_number by
  taker_below ch taker.Get n its = tt
  taker_below ch (taker.Consumer number) n (k, i, is) = subst (λ (m : ℕ). m < ch.next_number) is (all_in (λ (x : Consumer). x.number < ch.next_number) k ch.consumers n.before i)

  -- Each deed keeps the names.
  pub named_on : (e : Event) (c : ℕ) (sends : List Send) (notes : List Note) → IsSaid e → Deed t old new e c sends notes → AreNamed t new
  named_on e c sends notes said (changes s (nothing same_queues channels connections)) = same channels
  named_on e c sends notes said (changes s (alters h now same_queues puts alike serves)) = with_some c h now puts.channels (served c h now said alike serves)
  named_on e c sends notes said (changes s (ends h same_queues puts awaits)) = with_this c h None puts.channels (λ ch none. absurd (false≢true (ap is_some none)))
  named_on e c sends notes said (changes s (clears h now freed puts empty)) = with_this c h now puts.channels (λ ch is. named_new t ch (empty ch is).consumers (empty ch is).outstanding)
  named_on e c sends notes said (changes s (renews row freed r)) = with_these c row r.channels (λ k ch is. named_new t ch (r.empty k ch is).consumers (r.empty k ch is).outstanding)
  named_on e c sends notes said (enters h now p puts alike serves) = with_some c h now puts.channels (served c h now said alike serves)
  named_on e c sends notes said (gives g) =
      let n = a c g.h g.ch g.there in
      with_some c g.h _ g.left.channels (named_as t g.ch _ refl refl (given_more g.no_ack _ _ _ g.by g.ch.outstanding (taker_below g.ch g.by n g.its) n.given) n)
  named_on e c sends notes said (settles s) = with_some c s.h _ s.is.channels (named_as t (mine c s.h) _ refl refl (given_kept _ s.tag s.multiple (mine c s.h).outstanding (named_mine c s.h).given) (named_mine c s.h))
  named_on e c sends notes said (purges p) = same p.left.channels

pub stay_named : ConsumersStayNamed
stay_named = record { empty = λ t c h ch e. absurd (false≢true (ap is_some e)); acts = λ t old new e sends notes said a p. named_on t old new a e (event_connection e) sends notes said (acted t old new sends notes e p).deed; fresh = λ t ch n. count_none _ ch.outstanding (all_each _ _ (λ (o : Outstanding). none_to_next ch.next_number o.by) ch.outstanding n.given) }

-- ---- what is delivered

both_true : (a b : Bool) → (a && b) ≡ true → a ≡ true
both_true true b e = refl
both_true false b e = absurd (false≢true e)

-- What is delivered has an address: its tags, names and key have a spelling.
pub are_addressed : DeliveriesAreAddressed
are_addressed t old new c sends notes d carried named below =
    let o = d.made in
    let there = (find_in is_ready o.entry (old.queue o.consumer.queue) o.first).0 in
    let message = all_in (λ (e : Entry). IsCarried e.message) o.entry (old.queue o.consumer.queue) (carried o.consumer.queue) there in
    let short = all_in (λ (k : Consumer). length k.tag < 256) o.consumer o.channel.consumers (named c o.number o.channel o.taker.there).spelled o.taker.its in
    let left = leb-true (suc o.channel.next_tag) 18446744073709551615 (both_true (has_tag_left o.channel.next_tag) _ o.taker.may) in
    subst (AllByRecursion (IsAddressed c)) (sym d.makes.sent) ((refl, below, (short, (omega (arith, left), (omega arith, (message.exchange, (message.key, tt)))))), tt)
