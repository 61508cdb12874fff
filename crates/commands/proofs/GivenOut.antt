-- What the broker's state is after a message was given out.
use Rattle.commands.proofs.Names.{◌≡◌, ◌+◌, ◌<◌, ◌∷◌, [], ℕ, List, Bool, true, false, cond, Option, None, inl, inr, refl, sym, ap, subst, ◌∙◌, arith, slice_index_or, is_some, AllByRecursion, eqb-true, false≢true, map-append, same_Some, Text, Topology, queue_names, IsIn, IsAgreed, Broker, Channel, Outstanding, is_ready, with_pair, is_held_as, held_as, change_first, without_first, channel_after, with_queue, channel_or_new, Entry, Holder, Mark, Ready, Held, Taker, queue_name, Store, IsQueueNamed, entries_named, queue_at, with_entries_at, open_in, given_on, settled_on, outstanding_in, CanCommand, GivesHere, seen, state_of}
use Rattle.std.proofs.Common.{◌&&◌, ◌==◌, Some}
use Rattle.std.specs.Prelude.{find}
use Rattle.channels.specs.Open.{Open}

-- a channel that is this one, where the queues have the same names, is seen so
pub seen_alike : (s s' : Store) (ch ch' : Open) → s'.topology ≡ s.topology → ch' ≡ ch → seen s' ch' ≡ seen s ch
seen_alike s s' ch ch' same e = ap (λ (t : Topology). open_in (queue_names t.queues) ch') same ∙ ap (open_in (queue_names s.topology.queues)) e

-- the first ready message of a queue left it, and needs no acknowledgement
pub taken_is : (c h place : ℕ) (by : Taker) (s s' : Store) (ch ch' : Open) → IsQueueNamed s place → s' ≡ with_entries_at s place (without_first is_ready (queue_at s place)) → ch' ≡ settled_on ch
    → GivesHere c h s ch true place by s' ch'
taken_is c h place by s s' ch ch' named e f old new turns = record {
  counted = ap (λ (x : Store). x.published) e;
  queues = λ q. ap (λ (x : Store). entries_named x q) e ∙ named.changed (without_first is_ready (queue_at s place)) q
      ∙ ap (λ (es : List Entry). with_queue (entries_named s) (queue_name s.topology place) (without_first is_ready es) q) (sym named.entries_are);
  connections = turns.connections;
  channels = λ d k. turns.channels d k ∙ ap (λ (x : Channel). with_pair old.channel c h (Some x) d k) (seen_alike s s' (settled_on ch) ch' (ap (λ (x : Store). x.topology) e) f);
}

-- a channel on which a message was given out is seen so
seen_given : (names : List Text) (ch : Open) (place arrival : ℕ) (by : Taker) → open_in names (given_on ch place arrival by) ≡ channel_after false (slice_index_or names place []) by (open_in names ch)
seen_given names ch place arrival by =
    ap (λ (os : List Outstanding). record (open_in names ch) { next_tag = ch.given.next_tag + 1; outstanding = os })
    (map-append (outstanding_in names) ch.given.outstanding (record { tag = ch.given.next_tag; queue = place; arrival = arrival; by = by } ∷ []))

-- the first ready message of a queue is held under the next tag of a channel for which room was made
pub held_is : (c h place arrival tag room : ℕ) (by : Taker) (s s' : Store) (ch mid ch' : Open) → IsQueueNamed s place → mid ≡ record ch { given = record ch.given { room = room } } → tag ≡ mid.given.next_tag
    → s' ≡ with_entries_at s place (change_first is_ready (held_as (record { connection = c; channel = h; tag = tag; by = by })) (queue_at s place)) → ch' ≡ given_on mid place arrival by
    → GivesHere c h s ch false place by s' ch'
held_is c h place arrival tag room by s s' ch mid ch' named same tagged e f old new turns =
    let names = queue_names s.topology.queues in
    let holder : Holder = record { connection = c; channel = h; tag = ch.given.next_tag; by = by } in
    let own : tag ≡ ch.given.next_tag = tagged ∙ ap (λ (x : Open). x.given.next_tag) same in
    let held : s' ≡ with_entries_at s place (change_first is_ready (held_as holder) (queue_at s place)) =
    e ∙ ap (λ (t : ℕ). with_entries_at s place (change_first is_ready (held_as (record { connection = c; channel = h; tag = t; by = by })) (queue_at s place))) own in
    record {
      counted = ap (λ (x : Store). x.published) held;
      queues = λ q. ap (λ (x : Store). entries_named x q) held ∙ named.changed (change_first is_ready (held_as holder) (queue_at s place)) q
          ∙ ap (λ (es : List Entry). with_queue (entries_named s) (queue_name s.topology place) (change_first is_ready (held_as holder) es) q) (sym named.entries_are);
      connections = turns.connections;
      channels = λ d k. turns.channels d k
          ∙ ap (λ (x : Channel). with_pair old.channel c h (Some x) d k)
          (seen_alike s s' (given_on mid place arrival by) ch' (ap (λ (x : Store). x.topology) held) f
          ∙ ap (λ (x : Open). open_in names (given_on x place arrival by)) same
          ∙ seen_given names (record ch { given = record ch.given { room = room } }) place arrival by);
    }

-- ---- no message is held under the next tag

pub find_in : {A : Type 0} (p : A → Bool) (x : A) (xs : List A) → find p xs ≡ Some x → IsIn x xs × (p x ≡ true)
find_in p x [] e = absurd (false≢true (ap is_some e))
find_in {A = A} p x (y ∷ ys) e = go (p y) refl (find_in p x ys) e
  where
    go : (v : Bool) → p y ≡ v → (find p ys ≡ Some x → IsIn x ys × (p x ≡ true)) → cond v (Some y) (find p ys) ≡ Some x → IsIn x (y ∷ ys) × (p x ≡ true)
    go true q more e = (inl (sym (same_Some y x e)), subst (λ (z : A). p z ≡ true) (same_Some y x e) q)
    go false q more e = (inr (more e).0, (more e).1)

pub all_in : {A : Type 0} (P : A → Type 0) (x : A) (xs : List A) → AllByRecursion P xs → IsIn x xs → P x
all_in P x [] a i = absurd i
all_in P x (y ∷ ys) a (inl e) = subst P (sym e) a.0
all_in P x (y ∷ ys) a (inr i) = all_in P x ys a.1 i

-- what is held under a tag is so by one who holds that tag of that channel
data HeldUnder (g : Holder) (e : Entry) : Type 0 where
  held : (holder : Holder) → e.mark ≡ Held holder → holder.connection ≡ g.connection → holder.channel ≡ g.channel → holder.tag ≡ g.tag → HeldUnder g e

held_under : (g : Holder) (e : Entry) → is_held_as g e ≡ true → HeldUnder g e
held_under g e is = go e.mark refl is
  where
    parts : (holder : Holder) → e.mark ≡ Held holder → (u : Bool) → (holder.connection == g.connection) ≡ u → (v : Bool) → (holder.channel == g.channel) ≡ v → (w : Bool) → (holder.tag == g.tag) ≡ w → ((u && v) && w) ≡ true → HeldUnder g e
    parts holder at true a true b true c f = held holder at (eqb-true holder.connection g.connection a) (eqb-true holder.channel g.channel b) (eqb-true holder.tag g.tag c)
    parts holder at true a true b false c f = absurd (false≢true f)
    parts holder at true a false b w c f = absurd (false≢true f)
    parts holder at false a v b w c f = absurd (false≢true f)

    go : (m : Mark) → e.mark ≡ m → is_held_as g (record { message = e.message; mark = m }) ≡ true → HeldUnder g e
    go Ready at f = absurd (false≢true f)
    go (Held holder) at f = parts holder at (holder.connection == g.connection) refl (holder.channel == g.channel) refl (holder.tag == g.tag) refl f

-- no message is held under the tag that is next on its channel
pub next_free : (b : Broker) → IsAgreed b → (c h : ℕ) (by : Taker) (q : Text) → find (is_held_as (record { connection = c; channel = h; tag = (channel_or_new (b.channel c h)).next_tag; by = by })) (b.queue q) ≡ None
next_free b a c h by q = go (find (is_held_as g) (b.queue q)) refl
  where
    g : Holder
    g = record { connection = c; channel = h; tag = (channel_or_new (b.channel c h)).next_tag; by = by }

    none : (e : Entry) → IsIn e (b.queue q) → HeldUnder g e → ⊥
    none e i (held holder at same_c same_h same_tag) =
        let o = a.held q e holder i at in
        let own : channel_or_new (b.channel c h) ≡ o.channel = ap channel_or_new (ap (λ (d : ℕ). b.channel d h) (sym same_c) ∙ ap (b.channel holder.connection) (sym same_h) ∙ o.there) in
        let below : o.delivery.tag < o.channel.next_tag = all_in (λ (x : Outstanding). x.tag < o.channel.next_tag) o.delivery o.channel.outstanding (a.before holder.connection holder.channel o.channel o.there) o.outstanding in
        let next : o.channel.next_tag ≡ o.delivery.tag = ap (λ (x : Channel). x.next_tag) (sym own) ∙ sym same_tag ∙ sym o.tag in
        omega (arith, below, next)

    go : (o : Option Entry) → find (is_held_as g) (b.queue q) ≡ o → o ≡ None
    go None e = refl
    go (Some e) f = let at = find_in (is_held_as g) e (b.queue q) f in absurd (none e at.0 (held_under g e at.1))

-- nor in the queue from which one is given out there
pub tag_free : (c h place tag : ℕ) (by : Taker) (s : Store) (ch : Open) → CanCommand c h s ch → IsQueueNamed s place → tag ≡ ch.given.next_tag
    → find (is_held_as (record { connection = c; channel = h; tag = tag; by = by })) (queue_at s place) ≡ None
tag_free c h place tag by s ch can named e =
    let own : (channel_or_new (can.side.channel c h)).next_tag ≡ tag = ap (λ (o : Option Channel). (channel_or_new o).next_tag) can.there ∙ sym e in
    subst (λ (es : List Entry). find (is_held_as (record { connection = c; channel = h; tag = tag; by = by })) es ≡ None) named.entries_are
    (subst (λ (t : ℕ). find (is_held_as (record { connection = c; channel = h; tag = t; by = by })) (entries_named s (queue_name s.topology place)) ≡ None) own
    (next_free (state_of s can.side) can.agreed c h by (queue_name s.topology place)))
