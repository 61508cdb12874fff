-- Every event of the broker leaves what is held and what is outstanding in agreement.
use Rattle.laws.proofs.Names.{◌≡◌, ℕ, zero, suc, ◌≤◌, ◌⊎◌, List, [], ◌∷◌, ◌++◌, Bool, true, false, cond, refl, sym, ap, subst, ◌∙◌, length, get_or, arith, None, inl, inr, count_by, is_some, nat_le, ◌==◌, ◌&&◌, AllByRecursion, bytes_eq, eqb-true, eq-eqb, false≢true, same_Some, AllPairs-filter, all_pairs_push, Text, Topology, IsIn, Outstanding, Channel, Broker, new_channel, is_full, is_ready, with_pair, with_row, is_under, is_held_as, by_channel, by_connection, freed, held_as, change_first, Rises, is_refused, settled, Settlement, Leaves, Rejects, Returns, AreSettled, AreRejected, first_ready, holder_of, given_in, without_given, after_delivery, after_giving, channel_after, outstanding_after, tag_of, Settles, Is, channel_or_new, is_awaiting, empty_broker, MayDie, IsOutstanding, IsAgreed, Message, Entry, Holder, Ready, Held, Taker, Send, Event, Note, BrokersStayAgreed, event_connection, Mark}
use Rattle.std.proofs.Common.{◌+◌, ◌<◌, map, filter, not, Option, Some}
use Rattle.std.specs.Prelude.{if◌then◌else◌}
use Rattle.model.specs.Settling.{kept, takes}
use Rattle.model.specs.Step.{comes_to}
use Rattle.laws.proofs.Deeds.{Deed, changes, enters, gives, settles, purges, nothing, alters, ends, clears, renews, AreSame, Puts, acted, channel_at}
use Rattle.laws.proofs.Counts.{count-append, count-cons, in-append, in_front, all_in, all-append, all_each, filter_all}
use Rattle.laws.proofs.Agreement.{Passes, number, HeldIn, Shrinks, shrinks_same, shrinks_freed, shrinks_without, shrinks_filter, left_shrinks, returned_shrinks, left_clear, returned_clear, in_freed, held_here, counted_in, find_counted, ready_not_held, same_holder, shrinks_on, AreDistinct, IsClear, clear_on, apart_on, count_own, at_own}
use Rattle.laws.proofs.Given.{Keeps, Any, IsOther, keeps_same, keeps_on, keeps_arrivals, keeps_freed, keeps_purged, keeps_given, left_keeps, rejected_keeps, returned_keeps, first_is_held, in_passing}
use Rattle.laws.proofs.Dying.{Goes, not_found, left_only, died, goes_by}
use Rattle.laws.proofs.Leaving.{at_queue, in_filter}

-- ---- channels

-- tags rise, none is as great as the next one, and none is there where close-ok is awaited
abbrev IsGood : Channel → Type 0
IsGood ch = Rises tag_of ch.outstanding × AllByRecursion (λ (o : Outstanding). o.tag < ch.next_tag) ch.outstanding × (ch.is_closing ≡ true → ch.outstanding ≡ [])

good_new : IsGood new_channel
good_new = (λ i j x y lt. absurd (omega arith), tt, λ e. refl)

-- so is one on which nothing is outstanding
good_empty : (ch : Channel) → ch.outstanding ≡ [] → IsGood ch
good_empty ch none = (
  subst (λ (os : List Outstanding). Rises tag_of os) (sym none) good_new.0,
  subst (λ (os : List Outstanding). AllByRecursion (λ (o : Outstanding). o.tag < ch.next_tag) os) (sym none) tt,
  λ e. none,
)

-- those of a broker that agrees are so, and so is one that stands for a channel that is not open
good_or_new : (old : Broker) → IsAgreed old → (c h : ℕ) → IsGood (channel_or_new (old.channel c h))
good_or_new old a c h = go (old.channel c h) refl
  where
    go : (o : Option Channel) → old.channel c h ≡ o → IsGood (channel_or_new o)
    go None e = good_new
    go (Some ch) e = (a.rising c h ch e, a.before c h ch e, a.closed c h ch e)

-- what is outstanding is held
abbrev AreHeld : Broker → Type 0
AreHeld b = (c h : ℕ) (ch : Channel) (o : Outstanding) → b.channel c h ≡ Some ch → IsIn o ch.outstanding → HeldIn (b.queue o.queue) (holder_of c h o)

held_of : (old : Broker) → IsAgreed old → AreHeld old
held_of old a c h ch o e i = let was = a.given c h ch o e i in record { entry = was.entry; there = was.there; mark = was.mark }

held_or_new : (old : Broker) → IsAgreed old → (c h : ℕ) (o : Outstanding) → IsIn o (channel_or_new (old.channel c h)).outstanding → HeldIn (old.queue o.queue) (holder_of c h o)
held_or_new old a c h o = go (old.channel c h) refl
  where
    go : (x : Option Channel) → old.channel c h ≡ x → IsIn o (channel_or_new x).outstanding → HeldIn (old.queue o.queue) (holder_of c h o)
    go None e i = absurd i
    go (Some ch) e i = held_of old a c h ch o e i

-- the channel where a delivery is outstanding
own_of : (old : Broker) (q : Text) (holder : Holder) (o : IsOutstanding old q holder) (c h : ℕ) → holder.connection ≡ c → holder.channel ≡ h → channel_or_new (old.channel c h) ≡ o.channel
own_of old q holder o c h e f = ap channel_or_new (ap (λ (d : ℕ). old.channel d h) (sym e) ∙ ap (old.channel holder.connection) (sym f) ∙ o.there)

-- ---- a broker from another

agreed_by : (old new : Broker) → IsAgreed old → Shrinks old.queue new.queue
    → ((q : Text) (holder : Holder) → HeldIn (new.queue q) holder → IsOutstanding old q holder → IsOutstanding new q holder)
    → AreHeld new → ((c h : ℕ) (ch : Channel) → new.channel c h ≡ Some ch → IsGood ch) → IsAgreed new
agreed_by old new a s keep given good = record {
  held = λ q e holder i is.
      let was = s.held q e holder i is in
      keep q holder (record { entry = e; there = i; mark = is }) (a.held q was.entry holder was.there was.mark);
  given = λ c h ch o e i. let it = given c h ch o e i in record { entry = it.entry; there = it.there; mark = it.mark };
  distinct = λ q holder. let x = s.fewer q holder in let y = a.distinct q holder in omega (arith, x, y);
  rising = λ c h ch e. (good c h ch e).0;
  before = λ c h ch e. (good c h ch e).1;
  closed = λ c h ch e. (good c h ch e).2;
}

-- the channels are as they were
outstanding_same : (old new : Broker) → ((c h : ℕ) → new.channel c h ≡ old.channel c h) → (q : Text) (holder : Holder) → IsOutstanding old q holder → IsOutstanding new q holder
outstanding_same old new same q holder o = record { channel = o.channel; there = same holder.connection holder.channel ∙ o.there; delivery = o.delivery; outstanding = o.outstanding; tag = o.tag; queue = o.queue; by = o.by }

good_same : (old new : Broker) → IsAgreed old → ((c h : ℕ) → new.channel c h ≡ old.channel c h) → (c h : ℕ) (ch : Channel) → new.channel c h ≡ Some ch → IsGood ch
good_same old new a same c h ch e = let was = sym (same c h) ∙ e in (a.rising c h ch was, a.before c h ch was, a.closed c h ch was)

agreed_same : (old new : Broker) → IsAgreed old → Shrinks old.queue new.queue → Keeps Any old.queue new.queue → ((c h : ℕ) → new.channel c h ≡ old.channel c h) → IsAgreed new
agreed_same old new a s stays same = agreed_by old new a s (λ q holder i o. outstanding_same old new same q holder o)
    (λ c h ch o e i. stays o.queue (holder_of c h o) tt (held_of old a c h ch o (sym (same c h) ∙ e) i)) (good_same old new a same)

-- and so are the queues
agreed_still : (old new : Broker) → IsAgreed old → ((q : Text) → new.queue q ≡ old.queue q) → ((c h : ℕ) → new.channel c h ≡ old.channel c h) → IsAgreed new
agreed_still old new a queues same = agreed_same old new a (shrinks_same old.queue new.queue queues) (keeps_same Any old.queue new.queue queues) same

-- one channel is another: it is this one, or one of the others
pub data At (A : Type 0) (f : ℕ → ℕ → A) (c h : ℕ) (x : A) (d k : ℕ) : Type 0 where
  own : d ≡ c → k ≡ h → with_pair f c h x d k ≡ x → At A f c h x d k
  other : ((d == c) && (k == h)) ≡ false → with_pair f c h x d k ≡ f d k → At A f c h x d k

pub pair_at : {A : Type 0} (f : ℕ → ℕ → A) (c h : ℕ) (x : A) (d k : ℕ) → At A f c h x d k
pair_at {A = A} f c h x d k = go (d == c) refl (k == h) refl
  where
    distinct : ((d == c) && (k == h)) ≡ false → At A f c h x d k
    distinct e = other e (ap (λ (b : Bool). if b then x else f d k) e)

    go : (v : Bool) → (d == c) ≡ v → (w : Bool) → (k == h) ≡ w → At A f c h x d k
    go true e true g = own (eqb-true d c e) (eqb-true k h g) (ap (λ (b : Bool). if b && (k == h) then x else f d k) e ∙ ap (λ (b : Bool). if true && b then x else f d k) g)
    go true e false g = distinct (ap (λ (b : Bool). b && (k == h)) e ∙ ap (λ (b : Bool). true && b) g)
    go false e w g = distinct (ap (λ (b : Bool). b && (k == h)) e)

outstanding_with : (old new : Broker) (c h : ℕ) (x : Option Channel) → ((d k : ℕ) → new.channel d k ≡ with_pair old.channel c h x d k) → (q : Text) (holder : Holder) → IsOutstanding old q holder
    → (holder.connection ≡ c → holder.channel ≡ h → new.channel holder.connection holder.channel ≡ x → IsOutstanding new q holder) → IsOutstanding new q holder
outstanding_with old new c h x are q holder o here = go (pair_at old.channel c h x holder.connection holder.channel)
  where
    go : At (Option Channel) old.channel c h x holder.connection holder.channel → IsOutstanding new q holder
    go (own e f is) = here e f (are holder.connection holder.channel ∙ is)
    go (other distinct is) = record { channel = o.channel; there = are holder.connection holder.channel ∙ is ∙ o.there; delivery = o.delivery; outstanding = o.outstanding; tag = o.tag; queue = o.queue; by = o.by }

good_with : (old new : Broker) (c h : ℕ) (x : Option Channel) → IsAgreed old → ((d k : ℕ) → new.channel d k ≡ with_pair old.channel c h x d k) → ((ch : Channel) → x ≡ Some ch → IsGood ch) → (d k : ℕ) (ch : Channel) → new.channel d k ≡ Some ch → IsGood ch
good_with old new c h x a are good d k ch e = go (pair_at old.channel c h x d k)
  where
    go : At (Option Channel) old.channel c h x d k → IsGood ch
    go (own f g is) = good ch (sym is ∙ sym (are d k) ∙ e)
    go (other distinct is) = let was = sym is ∙ sym (are d k) ∙ e in (a.rising d k ch was, a.before d k ch was, a.closed d k ch was)

-- what other channels hold stays held, and what is outstanding on this one is held
held_with : (P : Holder → Type 0) (old new : Broker) (c h : ℕ) (x : Option Channel) → IsAgreed old → Keeps P old.queue new.queue → ((holder : Holder) → by_channel c h holder ≡ false → P holder) → ((d k : ℕ) → new.channel d k ≡ with_pair old.channel c h x d k)
    → ((ch : Channel) (o : Outstanding) → x ≡ Some ch → IsIn o ch.outstanding → HeldIn (new.queue o.queue) (holder_of c h o)) → AreHeld new
held_with P old new c h x a stays others are here d k ch o e i = go (pair_at old.channel c h x d k)
  where
    go : At (Option Channel) old.channel c h x d k → HeldIn (new.queue o.queue) (holder_of d k o)
    go (own f g is) =
        let it = here ch o (sym is ∙ sym (are d k) ∙ e) i in
        subst (λ (m : ℕ). HeldIn (new.queue o.queue) (holder_of m k o)) (sym f) (subst (λ (m : ℕ). HeldIn (new.queue o.queue) (holder_of c m o)) (sym g) it)
    go (other distinct is) = stays o.queue (holder_of d k o) (others (holder_of d k o) distinct) (held_of old a d k ch o (sym is ∙ sym (are d k) ∙ e) i)

-- one channel is another, on which what is outstanding is what is still held
agreed_with : (old new : Broker) (c h : ℕ) (ch : Channel) → IsAgreed old → Shrinks old.queue new.queue → ((d k : ℕ) → new.channel d k ≡ with_pair old.channel c h (Some ch) d k) → IsGood ch → AreHeld new
    → ((q : Text) (holder : Holder) → HeldIn (new.queue q) holder → holder.connection ≡ c → holder.channel ≡ h → (o : Outstanding) → IsIn o (channel_or_new (old.channel c h)).outstanding → o.tag ≡ holder.tag → o.queue ≡ q → IsIn o ch.outstanding)
    → IsAgreed new
agreed_with old new c h ch a s are good given stays = agreed_by old new a s keep given (good_with old new c h (Some ch) a are (λ x e. subst IsGood (same_Some ch x e) good))
  where
    keep : (q : Text) (holder : Holder) → HeldIn (new.queue q) holder → IsOutstanding old q holder → IsOutstanding new q holder
    keep q holder i o = outstanding_with old new c h (Some ch) are q holder o (λ e f is. record {
      channel = ch;
      there = is;
      delivery = o.delivery;
      outstanding = stays q holder i e f o.delivery (subst (λ (x : Channel). IsIn o.delivery x.outstanding) (sym (own_of old q holder o c h e f)) o.outstanding) o.tag o.queue;
      tag = o.tag;
      queue = o.queue;
      by = o.by;
    })

-- and nothing is held on one that is closed, or has nothing on it
agreed_cleared : (old new : Broker) (c h : ℕ) (x : Option Channel) → IsAgreed old → ((q : Text) → new.queue q ≡ map (freed (by_channel c h)) (old.queue q)) → ((d k : ℕ) → new.channel d k ≡ with_pair old.channel c h x d k)
    → ((ch : Channel) → x ≡ Some ch → ch.outstanding ≡ []) → IsAgreed new
agreed_cleared old new c h x a is are none = agreed_by old new a (shrinks_freed (by_channel c h) old.queue new.queue is) keep given (good_with old new c h x a are (λ ch e. good_empty ch (none ch e)))
  where
    given : AreHeld new
    given = held_with (λ holder. by_channel c h holder ≡ false) old new c h x a (keeps_freed (by_channel c h) old.queue new.queue is) (λ holder other. other) are (λ ch o e i. absurd (subst (IsIn o) (none ch e) i))

    keep : (q : Text) (holder : Holder) → HeldIn (new.queue q) holder → IsOutstanding old q holder → IsOutstanding new q holder
    keep q holder i o = outstanding_with old new c h x are q holder o (λ e f there. absurd (false≢true (sym (in_freed (by_channel c h) i.entry (old.queue q) holder (subst (IsIn i.entry) (is q) i.there) i.mark).1 ∙ mine e f)))
      where
        mine : holder.connection ≡ c → holder.channel ≡ h → by_channel c h holder ≡ true
        mine e f = ap (λ (b : Bool). b && (holder.channel == h)) (eq-eqb holder.connection c e) ∙ ap (λ (b : Bool). true && b) (eq-eqb holder.channel h f)

-- all channels of a connection are gone or have nothing on them, and what they held is ready again
agreed_freed : (old new : Broker) (c : ℕ) (row : ℕ → Option Channel) → IsAgreed old → ((q : Text) → new.queue q ≡ map (freed (by_connection c)) (old.queue q)) → ((d k : ℕ) → new.channel d k ≡ with_row old.channel c row d k)
    → ((k : ℕ) (ch : Channel) → row k ≡ Some ch → ch.outstanding ≡ []) → IsAgreed new
agreed_freed old new c row a is are none = agreed_by old new a (shrinks_freed (by_connection c) old.queue new.queue is) keep given good
  where
    -- a channel of this connection is one of the row, and any other is as it was
    mine : (d k : ℕ) → (d == c) ≡ true → new.channel d k ≡ row k
    mine d k e = are d k ∙ ap (λ (b : Bool). if b then row k else old.channel d k) e

    other : (d k : ℕ) → (d == c) ≡ false → new.channel d k ≡ old.channel d k
    other d k e = are d k ∙ ap (λ (b : Bool). if b then row k else old.channel d k) e

    keep : (q : Text) (holder : Holder) → HeldIn (new.queue q) holder → IsOutstanding old q holder → IsOutstanding new q holder
    keep q holder i o =
        let distinct = (in_freed (by_connection c) i.entry (old.queue q) holder (subst (IsIn i.entry) (is q) i.there) i.mark).1 in
        record { channel = o.channel; there = other holder.connection holder.channel distinct ∙ o.there; delivery = o.delivery; outstanding = o.outstanding; tag = o.tag; queue = o.queue; by = o.by }

    given : AreHeld new
    given d k ch o e i = go (d == c) refl
      where
        go : (v : Bool) → (d == c) ≡ v → HeldIn (new.queue o.queue) (holder_of d k o)
        go true f = absurd (subst (IsIn o) (none k ch (sym (mine d k f) ∙ e)) i)
        go false f = keeps_freed (by_connection c) old.queue new.queue is o.queue (holder_of d k o) f (held_of old a d k ch o (sym (other d k f) ∙ e) i)

    good : (d k : ℕ) (ch : Channel) → new.channel d k ≡ Some ch → IsGood ch
    good d k ch e = go (d == c) refl
      where
        go : (v : Bool) → (d == c) ≡ v → IsGood ch
        go true f = good_empty ch (none k ch (sym (mine d k f) ∙ e))
        go false f = let was = sym (other d k f) ∙ e in (a.rising d k ch was, a.before d k ch was, a.closed d k ch was)

-- ---- what a publish brings

in_arrivals : (t : Topology) (entries : Text → List Entry) (m : Message) (q : Text) (e : Entry) (rs : List Text) → IsIn e (comes_to t entries m q rs) → e.mark ≡ Ready
in_arrivals t entries m q e [] i = absurd i
in_arrivals t entries m q e (r ∷ rs) i = go (bytes_eq r q && not (is_full t entries r (length m.content.body))) (in_arrivals t entries m q e rs) i
  where
    go : (v : Bool) → (IsIn e (comes_to t entries m q rs) → e.mark ≡ Ready) → IsIn e (if v then record { message = m; mark = Ready } ∷ comes_to t entries m q rs else comes_to t entries m q rs) → e.mark ≡ Ready
    go true more (inl is) = ap (λ (z : Entry). z.mark) is
    go true more (inr j) = more j
    go false more j = more j

none_arrives_held : (t : Topology) (entries : Text → List Entry) (m : Message) (q : Text) (holder : Holder) (rs : List Text) → count_by (is_held_as holder) (comes_to t entries m q rs) ≡ zero
none_arrives_held t entries m q holder [] = omega arith
none_arrives_held t entries m q holder (r ∷ rs) = go (bytes_eq r q && not (is_full t entries r (length m.content.body))) (none_arrives_held t entries m q holder rs)
  where
    rest : List Entry
    rest = comes_to t entries m q rs

    go : (v : Bool) → count_by (is_held_as holder) rest ≡ zero → count_by (is_held_as holder) (if v then record { message = m; mark = Ready } ∷ rest else rest) ≡ zero
    go true e = let one = count-cons (is_held_as holder) (record { message = m; mark = Ready }) rest in omega (arith, one, e)
    go false e = e

pub shrinks_arrivals : (t : Topology) (old new : Text → List Entry) (entries : Text → List Entry) (m : Message) (rs : List Text) → ((q : Text) → new q ≡ old q ++ comes_to t entries m q rs) → Shrinks old new
shrinks_arrivals t old new entries m rs is = record {
  held = λ q e holder i mark. go q e holder mark (in-append e (old q) (comes_to t entries m q rs) (subst (IsIn e) (is q) i));
  fewer = λ q holder.
      let all = ap (count_by (is_held_as holder)) (is q) in
      let split = count-append (is_held_as holder) (old q) (comes_to t entries m q rs) in
      let none = none_arrives_held t entries m q holder rs in
      omega (arith, all, split, none);
}
  where
    go : (q : Text) (e : Entry) (holder : Holder) → e.mark ≡ Held holder → IsIn e (old q) ⊎ IsIn e (comes_to t entries m q rs) → HeldIn (old q) holder
    go q e holder mark (inl i) = record { entry = e; there = i; mark = mark }
    go q e holder mark (inr i) = ready_not_held _ (sym (in_arrivals t entries m q e rs i) ∙ mark)

-- ---- what is rejected

-- no dead letter is held
one_shrinks : (t : Topology) (name : Text) (gone : Text → List Entry) (notes : List Note) (new : Text → List Entry) (found : Option Entry) → Goes t name gone notes new found → Shrinks gone new
one_shrinks t name gone notes new None (not_found none same) = shrinks_same gone new same
one_shrinks t name gone notes new (Some e) (left_only is same) = shrinks_same gone new same
one_shrinks t name gone notes new (Some e) (died p exchange rest dies is d) = shrinks_arrivals t gone new gone _ d.targets d.left

first_shrinks : (t : Topology) (c h : ℕ) (o : Outstanding) (old : Text → List Entry) (notes : List Note) (mid : Text → List Entry) → MayDie t o.queue (without_given c h old o) notes mid (given_in c h old o) → Shrinks (without_given c h old o) mid
first_shrinks t c h o old notes mid dies = one_shrinks t o.queue (without_given c h old o) notes mid (given_in c h old o) (goes_by t o.queue (without_given c h old o) notes mid (given_in c h old o) dies)

pub rejected_shrinks : (t : Topology) (c h : ℕ) (os : List Outstanding) (old : Text → List Entry) (notes : List Note) (new : Text → List Entry) → AreRejected t c h os old notes new → Shrinks old new
rejected_shrinks t c h [] old notes new a = shrinks_same old new a.1
rejected_shrinks t c h (o ∷ os) old notes new (mid, first, rest, dies, all, more) =
    shrinks_on old mid new (shrinks_on old (without_given c h old o) mid (shrinks_without (is_held_as (holder_of c h o)) old o.queue) (first_shrinks t c h o old first mid dies)) (rejected_shrinks t c h os mid rest new more)

rejected_clear : (t : Topology) (c h : ℕ) (os : List Outstanding) (old : Text → List Entry) (notes : List Note) (new : Text → List Entry) → AreRejected t c h os old notes new → AreDistinct old → (o : Outstanding) → IsIn o os → IsClear c h new o
rejected_clear t c h [] old notes new a distinct o i = absurd i
rejected_clear t c h (p ∷ os) old notes new (mid, first, rest, dies, all, more) distinct o (inl e) =
    clear_on c h o mid new (rejected_shrinks t c h os mid rest new more)
    (subst (IsClear c h mid) (sym e) (clear_on c h p (without_given c h old p) mid (first_shrinks t c h p old first mid dies)
    (ap (count_by (is_held_as (holder_of c h p))) (at_own old p.queue _) ∙ count_own (is_held_as (holder_of c h p)) (old p.queue) (distinct p.queue (holder_of c h p)))))
rejected_clear t c h (p ∷ os) old notes new (mid, first, rest, dies, all, more) distinct o (inr i) =
    let step : Shrinks old mid = shrinks_on old (without_given c h old p) mid (shrinks_without (is_held_as (holder_of c h p)) old p.queue) (first_shrinks t c h p old first mid dies) in
    rejected_clear t c h os mid rest new more (apart_on old mid step distinct) o i

-- ---- what is settled

-- a delivery that is not settled stays
pub in_kept : (p : Outstanding → Bool) (o : Outstanding) (os : List Outstanding) → IsIn o os → p o ≡ false → IsIn o (filter (λ x. not (p x)) os)
in_kept p o [] i e = i
in_kept p o (x ∷ xs) i e = go (p x) refl (in_kept p o xs) i
  where
    go : (v : Bool) → p x ≡ v → (IsIn o xs → p o ≡ false → IsIn o (filter (λ x. not (p x)) xs)) → IsIn o (x ∷ xs) → IsIn o (cond (not v) (x ∷ filter (λ x. not (p x)) xs) (filter (λ x. not (p x)) xs))
    go true is more (inl same) = absurd (false≢true (sym e ∙ ap p same ∙ is))
    go true is more (inr j) = more j e
    go false is more (inl same) = inl same
    go false is more (inr j) = inr (more j e)

good_kept : (ch : Channel) (tag : ℕ) (multiple : Bool) → IsGood ch → IsGood (record ch { outstanding = kept tag_of tag multiple ch.outstanding })
good_kept ch tag multiple g = go (is_refused tag_of tag multiple ch.outstanding)
  where
    stay : List Outstanding
    stay = filter (λ x. not (takes tag_of tag multiple x)) ch.outstanding

    go : (v : Bool) → IsGood (record ch { outstanding = if v then ch.outstanding else stay })
    go true = g
    go false = (
      AllPairs-filter (λ (a b : Outstanding). a.tag < b.tag) (λ x. not (takes tag_of tag multiple x)) ch.outstanding g.0,
      filter_all (λ (o : Outstanding). o.tag < ch.next_tag) (λ x. not (takes tag_of tag multiple x)) ch.outstanding g.1,
      λ e. ap (filter (λ x. not (takes tag_of tag multiple x))) (g.2 e),
    )

and_false : (b : Bool) → (b && false) ≡ false
and_false true = refl
and_false false = refl

not_true : (b : Bool) → not b ≡ true → b ≡ false
not_true true e = absurd (false≢true e)
not_true false e = refl

module _ (old new : Broker) (c h : ℕ) (tag : ℕ) (multiple : Bool) (gone : List Outstanding) (a : IsAgreed old) where
  abbrev mine : Channel
  mine = channel_or_new (old.channel c h)

  -- where nothing is held any more under what is gone, what is still held stays outstanding
  still_outstanding : settled tag_of tag multiple mine.outstanding ≡ Some gone → ((o : Outstanding) → IsIn o gone → count_by (is_held_as (holder_of c h o)) (new.queue o.queue) ≡ zero)
      → (q : Text) (holder : Holder) → HeldIn (new.queue q) holder → holder.connection ≡ c → holder.channel ≡ h → (o : Outstanding) → IsIn o mine.outstanding → o.tag ≡ holder.tag → o.queue ≡ q → IsIn o (kept tag_of tag multiple mine.outstanding)
  still_outstanding is clear q holder i e f o there same at = go (is_refused tag_of tag multiple mine.outstanding) is
    where
      -- it is held under its own tag
      held : is_held_as (holder_of c h o) i.entry ≡ true
      held = under (held_here i.entry holder i.mark)
        where
          -- the holder's own connection, channel and tag
          at_connection : is_held_as (record { connection = c; channel = h; tag = o.tag; by = o.by }) i.entry ≡ is_held_as (record { connection = holder.connection; channel = h; tag = o.tag; by = o.by }) i.entry
          at_connection = ap (λ (d : ℕ). is_held_as (record { connection = d; channel = h; tag = o.tag; by = o.by }) i.entry) (sym e)

          at_channel : is_held_as (record { connection = holder.connection; channel = h; tag = o.tag; by = o.by }) i.entry ≡ is_held_as (record { connection = holder.connection; channel = holder.channel; tag = o.tag; by = o.by }) i.entry
          at_channel = ap (λ (d : ℕ). is_held_as (record { connection = holder.connection; channel = d; tag = o.tag; by = o.by }) i.entry) (sym f)

          at_tag : is_held_as (record { connection = holder.connection; channel = holder.channel; tag = o.tag; by = o.by }) i.entry ≡ is_held_as (record { connection = holder.connection; channel = holder.channel; tag = holder.tag; by = o.by }) i.entry
          at_tag = ap (λ (d : ℕ). is_held_as (record { connection = holder.connection; channel = holder.channel; tag = d; by = o.by }) i.entry) same

          under : is_held_as holder i.entry ≡ true → is_held_as (holder_of c h o) i.entry ≡ true
          under t = at_connection ∙ at_channel ∙ at_tag ∙ t

      not_gone : IsIn o gone → ⊥
      not_gone j =
          let none = clear o j in
          let some = counted_in (is_held_as (holder_of c h o)) i.entry (new.queue o.queue) (subst (λ (r : Text). IsIn i.entry (new.queue r)) (sym at) i.there) held in
          omega (arith, none, some)

      stays : filter (takes tag_of tag multiple) mine.outstanding ≡ gone → (v : Bool) → takes tag_of tag multiple o ≡ v → IsIn o (filter (λ x. not (takes tag_of tag multiple x)) mine.outstanding)
      stays all true t = absurd (not_gone (subst (IsIn o) all (in_passing (takes tag_of tag multiple) o mine.outstanding there t)))
      stays all false t = in_kept (takes tag_of tag multiple) o mine.outstanding there t

      go : (v : Bool) → (if v then None else Some (filter (takes tag_of tag multiple) mine.outstanding)) ≡ Some gone → IsIn o (if v then mine.outstanding else filter (λ x. not (takes tag_of tag multiple x)) mine.outstanding)
      go true s = there
      go false s = stays (same_Some _ gone s) (takes tag_of tag multiple o) refl

  -- a tag that settles one delivery and not another is not the tag of both
  other_tag : (o p : Outstanding) → takes tag_of tag multiple o ≡ false → takes tag_of tag multiple p ≡ true → (o.tag == p.tag) ≡ false
  other_tag o p spared taken_by = go (o.tag == p.tag) refl
    where
      taken : ℕ → Bool
      taken n = if multiple then (if tag == 0 then true else nat_le n tag) else n == tag

      go : (v : Bool) → (o.tag == p.tag) ≡ v → v ≡ false
      go true e = absurd (false≢true (sym spared ∙ ap taken (eqb-true o.tag p.tag e) ∙ taken_by))
      go false e = refl

  -- what stays outstanding was so, and has none of the tags that are gone
  kept_is_other : settled tag_of tag multiple mine.outstanding ≡ Some gone → (o : Outstanding) → IsIn o (kept tag_of tag multiple mine.outstanding) → IsIn o mine.outstanding × IsOther c h gone (holder_of c h o)
  kept_is_other is o i = go (is_refused tag_of tag multiple mine.outstanding) is i
    where
      under : (p : Outstanding) → (o.tag == p.tag) ≡ false → is_under (holder_of c h p) (holder_of c h o) ≡ false
      under p e = ap (λ (b : Bool). ((c == c) && (h == h)) && b) e ∙ and_false ((c == c) && (h == h))

      go : (v : Bool) → (if v then None else Some (filter (takes tag_of tag multiple) mine.outstanding)) ≡ Some gone → IsIn o (if v then mine.outstanding else filter (λ x. not (takes tag_of tag multiple x)) mine.outstanding) → IsIn o mine.outstanding × IsOther c h gone (holder_of c h o)
      go true s i = absurd (false≢true (ap is_some s))
      go false s i =
          let stays = in_filter (λ x. not (takes tag_of tag multiple x)) o mine.outstanding i in
          (stays.0, λ p j. under p (other_tag o p (not_true (takes tag_of tag multiple o) stays.1) (in_filter (takes tag_of tag multiple) p mine.outstanding (subst (IsIn p) (sym (same_Some _ gone s)) j)).1))

settles_agree : (t : Topology) (how : Settlement) (old new : Broker) (c h tag : ℕ) (multiple : Bool) (wanted sends : List Send) (notes : List Note) → IsAgreed old
    → Settles t how old c h (channel_or_new (old.channel c h)) tag multiple wanted sends notes new → IsAgreed new
settles_agree t how old new c h tag multiple wanted sends notes a p = agreed_with old new c h _ a (shrinks how p.queues) p.channels (good_kept (channel_or_new (old.channel c h)) tag multiple (good_or_new old a c h)) given
    (still_outstanding old new c h tag multiple p.gone a p.settled_are (clear how p.queues))
  where
    keeps : (s : Settlement) → AreSettled t s c h p.gone old.queue notes new.queue → Keeps (IsOther c h p.gone) old.queue new.queue
    keeps (Leaves cause) q = left_keeps cause c h p.gone old.queue notes new.queue q
    keeps Rejects q = rejected_keeps t c h p.gone old.queue notes new.queue q
    keeps Returns q = returned_keeps c h p.gone old.queue new.queue q.1

    -- another channel holds under none of these tags
    others : (holder : Holder) → by_channel c h holder ≡ false → IsOther c h p.gone holder
    others holder e o i = ap (λ (b : Bool). b && (holder.tag == o.tag)) e

    here : (ch : Channel) (o : Outstanding) → Some (record (channel_or_new (old.channel c h)) { outstanding = kept tag_of tag multiple (channel_or_new (old.channel c h)).outstanding }) ≡ Some ch → IsIn o ch.outstanding → HeldIn (new.queue o.queue) (holder_of c h o)
    here ch o e i =
        let was = kept_is_other old new c h tag multiple p.gone a p.settled_are o (subst (λ (x : Channel). IsIn o x.outstanding) (sym (same_Some _ ch e)) i) in
        keeps how p.queues o.queue (holder_of c h o) was.1 (held_or_new old a c h o was.0)

    given : AreHeld new
    given = held_with (IsOther c h p.gone) old new c h _ a (keeps how p.queues) others p.channels here

    shrinks : (s : Settlement) → AreSettled t s c h p.gone old.queue notes new.queue → Shrinks old.queue new.queue
    shrinks (Leaves cause) q = left_shrinks cause c h p.gone old.queue notes new.queue q
    shrinks Rejects q = rejected_shrinks t c h p.gone old.queue notes new.queue q
    shrinks Returns q = returned_shrinks c h p.gone old.queue new.queue q.1

    clear : (s : Settlement) → AreSettled t s c h p.gone old.queue notes new.queue → (o : Outstanding) → IsIn o p.gone → count_by (is_held_as (holder_of c h o)) (new.queue o.queue) ≡ zero
    clear (Leaves cause) q o i = left_clear cause c h p.gone old.queue notes new.queue q a.distinct o i
    clear Rejects q o i = rejected_clear t c h p.gone old.queue notes new.queue q a.distinct o i
    clear Returns q o i = returned_clear c h p.gone old.queue new.queue q.1 o i

-- ---- what is given out

-- one more delivery, under the next tag
good_given : (ch : Channel) (no_ack : Bool) (queue : Text) (by : Taker) → ch.is_closing ≡ false → IsGood ch → IsGood (channel_after no_ack queue by ch)
good_given ch true queue by open_still g = (g.0, all_each _ _ (λ o lt. omega (arith, lt)) ch.outstanding g.1, g.2)
good_given ch false queue by open_still g = (
  all_pairs_push (λ (a b : Outstanding). a.tag < b.tag) ch.outstanding (record { tag = ch.next_tag; queue = queue; by = by }) g.0 (λ k d lt. all_in _ (get_or ch.outstanding k d) ch.outstanding g.1 (in_at ch.outstanding k d lt)),
  all-append (λ (o : Outstanding). o.tag < ch.next_tag + 1) ch.outstanding _ (all_each _ _ (λ o lt. omega (arith, lt)) ch.outstanding g.1) (omega arith, tt),
  λ e. absurd (false≢true (sym open_still ∙ e)),
)
  where
    in_at : (os : List Outstanding) (k : ℕ) (d : Outstanding) → k < length os → IsIn (get_or os k d) os
    in_at [] k d lt = absurd (omega arith)
    in_at (o ∷ os) zero d lt = inl refl
    in_at (o ∷ os) (suc k) d lt = inr (in_at os k d (omega arith))

in_end : {A : Type 0} (x : A) (xs : List A) → IsIn x (xs ++ x ∷ [])
in_end x [] = inl refl
in_end x (y ∷ xs) = inr (in_end x xs)

-- what is in the changed list was in it before, or is what was changed
in_change : (p : Entry → Bool) (g : Holder) (x : Entry) (xs : List Entry) (holder : Holder) → IsIn x (change_first p (held_as g) xs) → x.mark ≡ Held holder → HeldIn xs holder ⊎ (g ≡ holder)
in_change p g x [] holder i is = absurd i
in_change p g x (y ∷ ys) holder i is = go (p y) (in_change p g x ys holder) i
  where
    go : (v : Bool) → (IsIn x (change_first p (held_as g) ys) → x.mark ≡ Held holder → HeldIn ys holder ⊎ (g ≡ holder)) → IsIn x (cond v (held_as g y ∷ ys) (y ∷ change_first p (held_as g) ys)) → HeldIn (y ∷ ys) holder ⊎ (g ≡ holder)
    go true more (inl e) = inr (same_holder g holder (sym (ap (λ (z : Entry). z.mark) e) ∙ is))
    go true more (inr j) = inl (record { entry = x; there = inr j; mark = is })
    go false more (inl e) = inl (record { entry = x; there = inl e; mark = is })
    go false more (inr j) = elim (more j is) [ inl w ↦ inl (record { entry = w.entry; there = inr w.there; mark = w.mark }) | inr w ↦ inr w ]

-- one more at most is held under a tag, and only under that of the new holder
count_change : (p : Entry → Bool) (g holder : Holder) (xs : List Entry) → count_by (is_held_as holder) (change_first p (held_as g) xs) ≤ count_by (is_held_as holder) xs + number (is_under holder g)
count_change p g holder [] = omega arith
count_change p g holder (y ∷ ys) = go (p y) (count_change p g holder ys)
  where
    go : (v : Bool) → count_by (is_held_as holder) (change_first p (held_as g) ys) ≤ count_by (is_held_as holder) ys + number (is_under holder g)
        → count_by (is_held_as holder) (cond v (held_as g y ∷ ys) (y ∷ change_first p (held_as g) ys)) ≤ count_by (is_held_as holder) (y ∷ ys) + number (is_under holder g)
    go true le =
        let one = count-cons (is_held_as holder) (held_as g y) ys in
        let two = count-cons (is_held_as holder) y ys in
        omega (arith, one, two)
    go false le =
        let one = count-cons (is_held_as holder) y (change_first p (held_as g) ys) in
        let two = count-cons (is_held_as holder) y ys in
        omega (arith, one, two, le)

-- under the parts of a holder that are known
under_parts : (holder g : Holder) → is_under holder g ≡ true → (g.connection ≡ holder.connection) × (g.channel ≡ holder.channel) × (g.tag ≡ holder.tag)
under_parts holder g e = go (g.connection == holder.connection) refl (g.channel == holder.channel) refl (g.tag == holder.tag) refl e
  where
    go : (u : Bool) → (g.connection == holder.connection) ≡ u → (v : Bool) → (g.channel == holder.channel) ≡ v → (w : Bool) → (g.tag == holder.tag) ≡ w → ((u && v) && w) ≡ true → (g.connection ≡ holder.connection) × (g.channel ≡ holder.channel) × (g.tag ≡ holder.tag)
    go true a true b true c e = (eqb-true g.connection holder.connection a, eqb-true g.channel holder.channel b, eqb-true g.tag holder.tag c)
    go true a true b false c e = absurd (false≢true e)
    go true a false b w c e = absurd (false≢true e)
    go false a v b w c e = absurd (false≢true e)

-- Nothing is held under a tag that is still to be given on its channel.
pub none_under_next : (old : Broker) → IsAgreed old → (c h : ℕ) (by : Taker) (q : Text) (holder : Holder) → is_under holder (record { connection = c; channel = h; tag = (channel_or_new (old.channel c h)).next_tag; by = by }) ≡ true
    → count_by (is_held_as holder) (old.queue q) ≡ zero
none_under_next old a c h by q holder under = go (count_by (is_held_as holder) (old.queue q)) refl
  where
    none : 1 ≤ count_by (is_held_as holder) (old.queue q) → ⊥
    none le = at (found.one.mark) refl
      where
        found : Passes (is_held_as holder) (old.queue q)
        found = find_counted (is_held_as holder) (old.queue q) le

        at : (m : Mark) → found.one.mark ≡ m → ⊥
        at Ready e = false≢true (sym (ap (λ (m : Mark). is_held_as holder (record { message = found.one.message; mark = m })) e) ∙ found.passes)
        at (Held g) e =
            let same : is_under holder g ≡ true = sym (ap (λ (m : Mark). is_held_as holder (record { message = found.one.message; mark = m })) e) ∙ found.passes in
            let parts = under_parts holder g same in
            let wanted = under_parts holder (record { connection = c; channel = h; tag = (channel_or_new (old.channel c h)).next_tag; by = by }) under in
            let o = a.held q found.one g found.there e in
            let it : channel_or_new (old.channel c h) ≡ o.channel = own_of old q g o c h (parts.0 ∙ sym wanted.0) (parts.1 ∙ sym wanted.1) in
            let before = all_in (λ (x : Outstanding). x.tag < o.channel.next_tag) o.delivery o.channel.outstanding (a.before g.connection g.channel o.channel o.there) o.outstanding in
            let next : (channel_or_new (old.channel c h)).next_tag ≡ o.channel.next_tag = ap (λ (x : Channel). x.next_tag) it in
            let tag = o.tag in
            let t = parts.2 in
            let w = wanted.2 in
            omega (arith, before, next, tag, t, w)

    go : (n : ℕ) → count_by (is_held_as holder) (old.queue q) ≡ n → count_by (is_held_as holder) (old.queue q) ≡ zero
    go zero e = e
    go (suc n) e = absurd (none (omega (arith, e)))

-- what was outstanding is held still, and so is what is given out
delivered_are_held : (old new : Broker) (c h : ℕ) (no_ack : Bool) (queue : Text) (by : Taker) (first : Entry) → first_ready (old.queue queue) ≡ Some first → IsAgreed old → Is (after_delivery old c h (channel_or_new (old.channel c h)) no_ack queue by) new → AreHeld new
delivered_are_held old new c h no_ack queue by first found a is = held_with Any old new c h _ a stays (λ holder other. tt) is.channels (λ ch o e i. here no_ack refl o (subst (λ (x : Channel). IsIn o x.outstanding) (sym (same_Some _ ch e)) i))
  where
    mine : Channel
    mine = channel_or_new (old.channel c h)

    holder : Holder
    holder = record { connection = c; channel = h; tag = mine.next_tag; by = by }

    stays : Keeps Any old.queue new.queue
    stays = keeps_on Any old.queue _ new.queue (keeps_given no_ack holder old.queue queue) (keeps_same Any _ new.queue is.queues)

    still : (o : Outstanding) → IsIn o mine.outstanding → HeldIn (new.queue o.queue) (holder_of c h o)
    still o i = stays o.queue (holder_of c h o) tt (held_or_new old a c h o i)

    now_held : no_ack ≡ false → HeldIn (new.queue queue) holder
    now_held e = subst (λ (es : List Entry). HeldIn es holder) (sym (is.queues queue ∙ at_own old.queue queue _ ∙ ap (λ (v : Bool). after_giving v holder (old.queue queue)) e)) (first_is_held holder first (old.queue queue) found)

    here : (v : Bool) → no_ack ≡ v → (o : Outstanding) → IsIn o (outstanding_after v mine.next_tag queue by mine.outstanding) → HeldIn (new.queue o.queue) (holder_of c h o)
    here true e o i = still o i
    here false e o i = elim (in-append o mine.outstanding _ i) [
      | inl j ↦ still o j
      | inr (inl same) ↦ subst (λ (x : Outstanding). HeldIn (new.queue x.queue) (holder_of c h x)) (sym same) (now_held e)
      | inr (inr j) ↦ absurd j
    ]

-- A delivery: the first ready message of a queue is held under the next tag, or leaves the queue.
delivery_agrees : (old new : Broker) (c h : ℕ) (no_ack : Bool) (queue : Text) (by : Taker) (first : Entry) → first_ready (old.queue queue) ≡ Some first → (channel_or_new (old.channel c h)).is_closing ≡ false → IsAgreed old → Is (after_delivery old c h (channel_or_new (old.channel c h)) no_ack queue by) new → IsAgreed new
delivery_agrees old new c h true queue by first found open_still a is = agreed_with old new c h _ a
    (shrinks_on old.queue _ new.queue (shrinks_without is_ready old.queue queue) (shrinks_same _ new.queue is.queues)) is.channels
    (good_given (channel_or_new (old.channel c h)) true queue by open_still (good_or_new old a c h)) (delivered_are_held old new c h true queue by first found a is) (λ q holder i e f o there same at. there)
delivery_agrees old new c h false queue by first found open_still a is = record {
  held = λ q e holder i mark. at_queue (λ (r : Text) (es : List Entry). new.queue r ≡ es → IsIn e es → IsOutstanding new r holder) old.queue queue _ (λ same j. here e holder j mark) (λ r other same j. old_one r holder (a.held r e holder j mark)) q (is.queues q) (subst (IsIn e) (is.queues q) i);
  given = λ d k ch o e i. let it = delivered_are_held old new c h false queue by first found a is d k ch o e i in record { entry = it.entry; there = it.there; mark = it.mark };
  distinct = λ q holder. subst (λ (es : List Entry). count_by (is_held_as holder) es ≤ 1) (sym (is.queues q)) (at_queue (λ (r : Text) (es : List Entry). count_by (is_held_as holder) es ≤ 1) old.queue queue _ (few holder (is_under holder (record { connection = c; channel = h; tag = (channel_or_new (old.channel c h)).next_tag; by = by })) refl) (λ r other. a.distinct r holder) q);
  rising = λ d k x e. (goods d k x e).0;
  before = λ d k x e. (goods d k x e).1;
  closed = λ d k x e. (goods d k x e).2;
}
  where
    goods : (d k : ℕ) (x : Channel) → new.channel d k ≡ Some x → IsGood x
    goods = good_with old new c h (Some (channel_after false queue by (channel_or_new (old.channel c h)))) a is.channels (λ x e. subst IsGood (same_Some _ x e) (good_given (channel_or_new (old.channel c h)) false queue by open_still (good_or_new old a c h)))

    -- what was outstanding is so still
    old_one : (q : Text) (holder : Holder) → IsOutstanding old q holder → IsOutstanding new q holder
    old_one q holder o = outstanding_with old new c h (Some (channel_after false queue by (channel_or_new (old.channel c h)))) is.channels q holder o (λ e f there. record {
      channel = channel_after false queue by (channel_or_new (old.channel c h));
      there = there;
      delivery = o.delivery;
      outstanding = in_front o.delivery (channel_or_new (old.channel c h)).outstanding _ (subst (λ (x : Channel). IsIn o.delivery x.outstanding) (sym (own_of old q holder o c h e f)) o.outstanding);
      tag = o.tag;
      queue = o.queue;
      by = o.by;
    })

    new_one : (holder : Holder) → record { connection = c; channel = h; tag = (channel_or_new (old.channel c h)).next_tag; by = by } ≡ holder → IsOutstanding new queue holder
    new_one holder same = subst (λ (g : Holder). IsOutstanding new queue g) same (record {
      channel = channel_after false queue by (channel_or_new (old.channel c h));
      there = is.channels c h ∙ ap (λ (b : Bool). if b && (h == h) then Some (channel_after false queue by (channel_or_new (old.channel c h))) else old.channel c h) (eq-eqb c c refl) ∙ ap (λ (b : Bool). if true && b then Some (channel_after false queue by (channel_or_new (old.channel c h))) else old.channel c h) (eq-eqb h h refl);
      delivery = record { tag = (channel_or_new (old.channel c h)).next_tag; queue = queue; by = by };
      outstanding = in_end _ (channel_or_new (old.channel c h)).outstanding;
      tag = refl;
      queue = refl;
      by = refl;
    })

    here : (e : Entry) (holder : Holder) → IsIn e (change_first is_ready (held_as (record { connection = c; channel = h; tag = (channel_or_new (old.channel c h)).next_tag; by = by })) (old.queue queue)) → e.mark ≡ Held holder → IsOutstanding new queue holder
    here e holder j mark = elim (in_change is_ready _ e (old.queue queue) holder j mark) [ inl was ↦ old_one queue holder (a.held queue was.entry holder was.there was.mark) | inr same ↦ new_one holder same ]

    few : (holder : Holder) (v : Bool) → is_under holder (record { connection = c; channel = h; tag = (channel_or_new (old.channel c h)).next_tag; by = by }) ≡ v
        → count_by (is_held_as holder) (change_first is_ready (held_as (record { connection = c; channel = h; tag = (channel_or_new (old.channel c h)).next_tag; by = by })) (old.queue queue)) ≤ 1
    few holder true e =
        let le = count_change is_ready (record { connection = c; channel = h; tag = (channel_or_new (old.channel c h)).next_tag; by = by }) holder (old.queue queue) in
        let one : number (is_under holder (record { connection = c; channel = h; tag = (channel_or_new (old.channel c h)).next_tag; by = by })) ≡ 1 = ap number e in
        let none = none_under_next old a c h by queue holder e in
        omega (arith, le, one, none)
    few holder false e =
        let le = count_change is_ready (record { connection = c; channel = h; tag = (channel_or_new (old.channel c h)).next_tag; by = by }) holder (old.queue queue) in
        let zero_of : number (is_under holder (record { connection = c; channel = h; tag = (channel_or_new (old.channel c h)).next_tag; by = by })) ≡ 0 = ap number e in
        let was = a.distinct queue holder in
        omega (arith, le, zero_of, was)

-- ---- all cases

-- the record of one channel changed, and neither its next tag nor what is outstanding there
agreed_record : (old new : Broker) (c h : ℕ) (ch : Channel) → IsAgreed old → Shrinks old.queue new.queue → Keeps Any old.queue new.queue → ((d k : ℕ) → new.channel d k ≡ with_pair old.channel c h (Some ch) d k)
    → ch.outstanding ≡ (channel_or_new (old.channel c h)).outstanding → ch.next_tag ≡ (channel_or_new (old.channel c h)).next_tag → ch.is_closing ≡ (channel_or_new (old.channel c h)).is_closing → IsAgreed new
agreed_record old new c h ch a s stays are same next closing = agreed_with old new c h ch a s are good given (λ q holder i e f o there tag at. subst (IsIn o) (sym same) there)
  where
    given : AreHeld new
    given = held_with Any old new c h (Some ch) a stays (λ holder other. tt) are
        (λ x o e i. stays o.queue (holder_of c h o) tt (held_or_new old a c h o (subst (IsIn o) same (subst (λ (y : Channel). IsIn o y.outstanding) (sym (same_Some ch x e)) i))))

    good : IsGood ch
    good =
        let g = good_or_new old a c h in (
          subst (λ (os : List Outstanding). Rises tag_of os) (sym same) g.0,
          subst (λ (os : List Outstanding). AllByRecursion (λ (o : Outstanding). o.tag < ch.next_tag) os) (sym same) (subst (λ (n : ℕ). AllByRecursion (λ (o : Outstanding). o.tag < n) (channel_or_new (old.channel c h)).outstanding) (sym next) g.1),
          λ e. same ∙ g.2 (sym closing ∙ e),
        )

-- where the queues are as they were too
agreed_alone : (old new : Broker) (c h : ℕ) (ch : Channel) → IsAgreed old → ((q : Text) → new.queue q ≡ old.queue q) → ((d k : ℕ) → new.channel d k ≡ with_pair old.channel c h (Some ch) d k)
    → ch.outstanding ≡ (channel_or_new (old.channel c h)).outstanding → ch.next_tag ≡ (channel_or_new (old.channel c h)).next_tag → ch.is_closing ≡ (channel_or_new (old.channel c h)).is_closing → IsAgreed new
agreed_alone old new c h ch a queues = agreed_record old new c h ch a (shrinks_same old.queue new.queue queues) (keeps_same Any old.queue new.queue queues)

module _ (t : Topology) (old new : Broker) (a : IsAgreed old) where
  -- on a channel that awaits close-ok nothing is outstanding
  closing_has_none : (c h : ℕ) → is_awaiting (old.channel c h) ≡ true → (q : Text) (holder : Holder) → IsOutstanding old q holder → holder.connection ≡ c → holder.channel ≡ h → ⊥
  closing_has_none c h awaits q holder o e f =
      let it : old.channel c h ≡ Some o.channel = ap (λ (d : ℕ). old.channel d h) (sym e) ∙ ap (old.channel holder.connection) (sym f) ∙ o.there in
      let none = a.closed c h o.channel it (sym (ap is_awaiting it) ∙ awaits) in
      subst (IsIn o.delivery) none o.outstanding

  -- so nothing is forgotten where it ends
  ended : (c h : ℕ) → is_awaiting (old.channel c h) ≡ true → AreSame old new → Puts old new c h None → IsAgreed new
  ended c h awaits queues p = agreed_by old new a (shrinks_same old.queue new.queue queues)
      (λ q holder i o. outstanding_with old new c h None p.channels q holder o (λ e f there. absurd (closing_has_none c h awaits q holder o e f)))
      (held_with Any old new c h None a (keeps_same Any old.queue new.queue queues) (λ holder other. tt) p.channels (λ ch o e i. absurd (false≢true (ap is_some e))))
      (good_with old new c h None a p.channels (λ ch e. absurd (false≢true (ap is_some e))))

  -- Each deed keeps the agreement.
  pub agreed_on : (e : Event) (c : ℕ) (sends : List Send) (notes : List Note) → Deed t old new e c sends notes → IsAgreed new
  agreed_on e c sends notes (changes s (nothing same channels connections)) = agreed_still old new a same channels
  agreed_on e c sends notes (changes s (alters h now same puts alike serves)) = agreed_alone old new c h now a same puts.channels alike.outstanding alike.next_tag alike.is_closing
  agreed_on e c sends notes (changes s (ends h same puts awaits)) = ended c h awaits same puts
  agreed_on e c sends notes (changes s (clears h now freed puts empty)) = agreed_cleared old new c h now a freed puts.channels (λ ch is. (empty ch is).outstanding)
  agreed_on e c sends notes (changes s (renews row freed r)) = agreed_freed old new c row a freed r.channels (λ k ch is. (r.empty k ch is).outstanding)
  agreed_on e c sends notes (enters h now p puts alike serves) =
      agreed_record old new c h now a (shrinks_arrivals t old.queue new.queue old.queue _ p.is.targets p.is.left.queues) (keeps_arrivals Any old.queue _ new.queue p.is.left.queues) puts.channels alike.outstanding alike.next_tag alike.is_closing
  agreed_on e c sends notes (gives g) =
      let is : channel_at old c g.h ≡ g.ch = ap channel_or_new g.there in
      delivery_agrees old new c g.h g.no_ack g.queue g.by g.entry g.first (ap (λ (ch : Channel). ch.is_closing) is ∙ g.open_still) a
      (subst (λ (ch : Channel). Is (after_delivery old c g.h ch g.no_ack g.queue g.by) new) (sym is) g.left)
  agreed_on e c sends notes (settles s) = settles_agree t s.how old new c s.h s.tag s.multiple s.wanted sends notes a s.is
  agreed_on e c sends notes (purges p) =
      agreed_same old new a (shrinks_on old.queue _ new.queue (shrinks_filter (λ x. not (is_ready x)) old.queue p.queue) (shrinks_same _ new.queue p.left.queues))
      (keeps_on Any old.queue _ new.queue (keeps_purged old.queue p.queue) (keeps_same Any _ new.queue p.left.queues)) p.left.channels

-- in the empty broker nothing is held
none_held : IsAgreed empty_broker
none_held = record {
  held = λ q e holder i is. absurd i;
  given = λ c h ch o e i. absurd (false≢true (ap is_some e));
  distinct = λ q holder. omega arith;
  rising = λ c h ch e. absurd (false≢true (ap is_some e));
  before = λ c h ch e. absurd (false≢true (ap is_some e));
  closed = λ c h ch e. absurd (false≢true (ap is_some e));
}

pub stay_agreed : BrokersStayAgreed
stay_agreed = record { empty = none_held; acts = λ t old new e sends notes a p. agreed_on t old new a e (event_connection e) sends notes (acted t old new sends notes e p).deed }
