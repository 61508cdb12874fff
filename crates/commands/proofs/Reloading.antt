-- Another topology is in force: what it leaves of queues and channels, by names.
use Rattle.commands.proofs.Names.{◌≡◌, ◌∙◌, ◌<◌, ℕ, zero, suc, List, [], ◌∷◌, get_or, map, Option, None, inl, inr, refl, sym, ap, subst, arith, option_map, All, AllByRecursion, same_Some, Text, Topology, IsIn, AreDistinct, queue_names, IsAgreed, IsInUse, by_entry, by_consumer, NoneIsOrphaned, survived_now, with_all_survived, Is, Entry, open_in, consumer_in, outstanding_in, Delivery, entries_named, stays, goes, AreMoved, GoneAreEmpty, names-length, is_in, channel_of, connection_of, seen_in, connections_moved, MovesAreUnseen, IsPlaced, same_default, Kept, ArePlaced, broker_of, topology_kept, names_of}
use Rattle.std.proofs.Common.{length, Some}
use Rattle.channels.specs.Open.{Open}
use Rattle.channels.specs.Moving.{place_now, outstanding_moved, consumer_moved, open_moved, IsNamedAlike, AreNamedAlike}
use Rattle.channels.specs.declared.consumers.Consumer.{Consumer}
use Rattle.channels.specs.RunningConnections.{Running}
use Rattle.channels.proofs.ConnectionsMoving.{moved_channel, moved_connection}
use Rattle.channels.proofs.Moving.{moved_numbered}

-- ---- each of a list

all_in : {X : Type 0} (P : X → Type 0) (x : X) (xs : List X) → All P xs → IsIn x xs → P x
all_in P x [] all i = absurd i
all_in P x (y ∷ ys) all (inl e) = subst P (sym e) (all zero y (omega arith))
all_in P x (y ∷ ys) all (inr i) = all_in P x ys (λ k d lt. all (suc k) d (omega (arith, lt))) i

each_of : {X : Type 0} (P : X → Type 0) (xs : List X) → ((x : X) → IsIn x xs → P x) → AllByRecursion P xs
each_of P [] f = tt
each_of P (x ∷ xs) f = (f x (inl refl), each_of P xs (λ y i. f y (inr i)))

all_moved : {X : Type 0} (P : X → Type 0) (g : X → X) (xs : List X) → ((x : X) → IsIn x xs → P (g x)) → All P (map g xs)
all_moved P g [] f k d lt = absurd (omega (arith, lt))
all_moved P g (x ∷ xs) f zero d lt = f x (inl refl)
all_moved P g (x ∷ xs) f (suc k) d lt = all_moved P g xs (λ y i. f y (inr i)) k d (omega (arith, lt))

pub in_mapped : {X Y : Type 0} (g : X → Y) (x : X) (xs : List X) → IsIn x xs → IsIn (g x) (map g xs)
in_mapped g x [] i = absurd i
in_mapped g x (y ∷ ys) (inl e) = inl (ap g e)
in_mapped g x (y ∷ ys) (inr i) = inr (in_mapped g x ys i)

-- a name has one index
pub one_place : (names : List Text) (i j : ℕ) → AreDistinct names → i < length names → j < length names → get_or names i [] ≡ get_or names j [] → i ≡ j
one_place [] i j distinct l m e = absurd (omega (arith, l))
one_place (n ∷ ns) zero zero distinct l m e = refl
one_place (n ∷ ns) zero (suc j) distinct l m e = absurd (distinct.0 (subst (λ (z : Text). IsIn z ns) (sym e) (is_in ns j (omega (arith, m)))))
one_place (n ∷ ns) (suc i) zero distinct l m e = absurd (distinct.0 (subst (λ (z : Text). IsIn z ns) e (is_in ns i (omega (arith, l)))))
one_place (n ∷ ns) (suc i) (suc j) distinct l m e = ap suc (one_place ns i j distinct.1 (omega (arith, l)) (omega (arith, m)) e)

-- one of these is what one of those is seen as
pub record IsSeenOf {X Y : Type 0} (f : X → Y) (y : Y) (xs : List X) : Type 0 where
  pub one : X
  pub among : IsIn one xs
  pub is : f one ≡ y

pub seen_of : {X Y : Type 0} (f : X → Y) (y : Y) (xs : List X) → IsIn y (map f xs) → IsSeenOf f y xs
seen_of f y [] i = absurd i
seen_of f y (x ∷ xs) (inl e) = record { one = x; among = inl refl; is = sym e }
seen_of f y (x ∷ xs) (inr i) = let more = seen_of f y xs i in record { one = more.one; among = inr more.among; is = more.is }

-- ---- the new indices of queues in use

-- what a reload requires of a broker holds of the same broker
pub can_reload : (old now : Kept) (t : Topology) → old ≡ now → IsAgreed (broker_of now) → NoneIsOrphaned (topology_kept now) t (broker_of now) → IsAgreed (broker_of old) × NoneIsOrphaned (topology_kept old) t (broker_of old)
can_reload old now t same agreed none =
    (subst (λ (k : Kept). IsAgreed (broker_of k)) (sym same) agreed, subst (λ (k : Kept). NoneIsOrphaned (topology_kept k) t (broker_of k)) (sym same) none)

-- The queue at this index is at its new index in the new topology, with its name.
pub record Stands (old new : List Text) (places : List ℕ) (p : ℕ) : Type 0 where
  pub within : place_now places p < length new
  pub named : IsNamedAlike old new places p

module _ (old : Kept) (t : Topology) (places : List ℕ) (placed : ArePlaced old) (agreed : IsAgreed (broker_of old)) (none : NoneIsOrphaned (topology_kept old) t (broker_of old))
    (moved : AreMoved (names_of old) (queue_names t.queues) places) where
  abbrev news : List Text
  news = queue_names t.queues

  abbrev StandsAt : ℕ → Type 0
  StandsAt p = Stands (names_of old) news places p

  stands : (p : ℕ) → p < length (topology_kept old).queues → IsInUse (broker_of old) (get_or (names_of old) p []) → StandsAt p
  stands p lt used =
      let long = names-length (topology_kept old).queues in
      let len = moved.len in
      let here = same_default places p 0 p (omega (arith, lt, long, len)) in
      elim (moved.each p (omega (arith, lt, long))) [
        | stays there named ↦ record {
          within = omega (arith, there, here);
          named = ap (λ (k : ℕ). get_or news k []) (sym here) ∙ named;
        }
        | goes gone behind ↦ absurd (none (get_or (names_of old) p []) (record { was = is_in (names_of old) p (omega (arith, lt, long)); gone = gone; in_use = used }))
      ]

  outstanding_stands : (c h : ℕ) (ch : Open) (o : Delivery) → channel_of old.connections c h ≡ Some ch → IsIn o ch.given.outstanding → StandsAt o.queue
  outstanding_stands c h ch o is i =
      let held = agreed.given c h (open_in (names_of old) ch) (outstanding_in (names_of old) o) (ap (option_map (open_in (names_of old))) is) (in_mapped (outstanding_in (names_of old)) o ch.given.outstanding i) in
      stands o.queue (all_in (λ (x : Delivery). x.queue < length (topology_kept old).queues) o ch.given.outstanding (placed c h ch is).outstanding i) (by_entry held.entry held.there)

  consumer_stands : (c h : ℕ) (ch : Open) (k : Consumer) → channel_of old.connections c h ≡ Some ch → IsIn k ch.given.consumers → StandsAt k.queue
  consumer_stands c h ch k is i =
      stands k.queue (all_in (λ (x : Consumer). x.queue < length (topology_kept old).queues) k ch.given.consumers (placed c h ch is).consumers i)
      (by_consumer c h (open_in (names_of old) ch) (consumer_in (names_of old) k) (ap (option_map (open_in (names_of old))) is) (in_mapped (consumer_in (names_of old)) k ch.given.consumers i) refl)

  pub all_alike : (c h : ℕ) (ch : Open) → channel_of old.connections c h ≡ Some ch → AreNamedAlike (names_of old) news places ch
  all_alike c h ch is = record {
    outstanding = each_of (λ (o : Delivery). IsNamedAlike (names_of old) news places o.queue) ch.given.outstanding (λ o i. (outstanding_stands c h ch o is i).named);
    consumers = each_of (λ (k : Consumer). IsNamedAlike (names_of old) news places k.queue) ch.given.consumers (λ k i. (consumer_stands c h ch k is i).named);
  }

  -- ---- what is outstanding and consumers stay within the queues that are there

  within : (p : ℕ) → StandsAt p → place_now places p < length t.queues
  within p at = let long = names-length t.queues in let lt = at.within in omega (arith, lt, long)

  moved_placed : (c h : ℕ) (ch : Open) → channel_of old.connections c h ≡ Some ch → IsPlaced t (open_moved places ch)
  moved_placed c h ch is = record {
    outstanding = all_moved (λ (o : Delivery). o.queue < length t.queues) (outstanding_moved places) ch.given.outstanding (λ o i. within o.queue (outstanding_stands c h ch o is i));
    consumers = all_moved (λ (k : Consumer). k.queue < length t.queues) (consumer_moved places) ch.given.consumers (λ k i. within k.queue (consumer_stands c h ch k is i));
    rise = let r = (placed c h ch is).rise in (r.0, moved_numbered places r.0 ch.given.consumers r.1);
  }

  pub placed_moved : (new : Kept) → topology_kept new ≡ t → new.connections ≡ connections_moved places old.connections → ArePlaced new
  placed_moved new e made c h ch is =
      subst (λ (x : Topology). IsPlaced x ch) (sym e)
      (go (channel_of old.connections c h) refl (sym (moved_channel places old.connections c h) ∙ sym (ap (λ (ls : List (ℕ × Running)). channel_of ls c h) made) ∙ is))
    where
      go : (o : Option Open) → channel_of old.connections c h ≡ o → option_map (open_moved places) o ≡ Some ch → IsPlaced t ch
      go None was f = absurd (let nothing : None ≡ Some ch = f in cc)
      go (Some x) was f = subst (IsPlaced t) (same_Some (open_moved places x) ch f) (moved_placed c h x was)

  -- ---- queues that are gone are empty

  pub gone_empty : GoneAreEmpty old.store news
  gone_empty q was gone = go (entries_named old.store q) refl
    where
      go : (es : List Entry) → entries_named old.store q ≡ es → entries_named old.store q ≡ []
      go [] e = e
      go (x ∷ es) e = absurd (none q (record { was = was; gone = gone; in_use = by_entry x (subst (λ (ys : List Entry). IsIn x ys) (sym e) (inl refl)) }))

  -- ---- what is seen

  pub all_stood : MovesAreUnseen → (new : Kept) → topology_kept new ≡ t → new.connections ≡ connections_moved places old.connections → new.store.published ≡ old.store.published
      → ((q : Text) → entries_named new.store q ≡ map survived_now (entries_named old.store q)) → Is (with_all_survived (broker_of old)) (broker_of new)
  all_stood unseen new e made published entries = record {
    counted = published;
    queues = entries;
    connections = λ c. ap (λ (ls : List (ℕ × Running)). connection_of ls c) made ∙ moved_connection places old.connections c;
    channels = λ c h.
        ap (λ (x : Topology). seen_in (queue_names x.queues) new.connections c h) e
        ∙ ap (λ (ls : List (ℕ × Running)). seen_in news ls c h) made
        ∙ unseen (names_of old) news places old.connections all_alike c h;
  }
