-- What is outstanding, and what consumers take, stays within the queues that are there.
use Rattle.commands.proofs.Names.{◌≡◌, ◌∙◌, ◌<◌, ◌++◌, ◌∷◌, [], ℕ, zero, suc, List, Bool, true, false, Option, None, map, not, inl, inr, refl, sym, ap, subst, arith, option_map, is_some, false≢true, same_Some, All-filter, All, Text, Topology, IsIn, new_channel, with_row, channels_up_to, Taker, Qos, Consume, is_named, open_in, consumer_in, with_qos, given_on, without_named, places_of, IsConsumerMade, outstanding_in, AreWithin, with_limit, Delivery, channel_of, seen_in, PutsChannel, OpensConnection, TakeWithin, NumbersRise, IsPlaced, ArePlaced, Kept, topology_kept}
use Rattle.std.proofs.Common.{◌&&◌, ◌==◌, Some, length, if◌then◌else◌}
use Rattle.model.specs.Broker as seen
use Rattle.channels.specs.Open.{Open}
use Rattle.channels.specs.declared.consumers.Consumer.{Consumer}
use Rattle.channels.proofs.Numbering.{numbered_filter}

-- one channel is another
pub placed_put : (old new : Kept) (c h : ℕ) (ch : Option Open) → topology_kept new ≡ topology_kept old → PutsChannel old.connections c h ch new.connections
    → ((k : Open) → ch ≡ Some k → IsPlaced (topology_kept old) k) → ArePlaced old → ArePlaced new
placed_put old new c h ch e put own placed d k x is = subst (λ (t : Topology). IsPlaced t x) (sym e) (go (d == c && k == h) (sym (put.channels d k) ∙ is))
  where
    go : (b : Bool) → (if b then ch else channel_of old.connections d k) ≡ Some x → IsPlaced (topology_kept old) x
    go true f = own x f
    go false f = placed d k x f

-- a channel on which nothing is outstanding
pub none_within : (t : Topology) (given : List Delivery) → given ≡ [] → AreWithin t given
none_within t given e = subst (AreWithin t) (sym e) (λ i o lt. absurd (omega (arith, lt)))

-- nor is there a consumer that takes from elsewhere where there is none
none_take : (t : Topology) (consumers : List Consumer) → consumers ≡ [] → TakeWithin t consumers
none_take t consumers e = subst (TakeWithin t) (sym e) (λ i k lt. absurd (omega (arith, lt)))

none_rise : (consumers : List Consumer) → consumers ≡ [] → NumbersRise consumers
none_rise consumers e = subst NumbersRise (sym e) (zero, tt)

-- a channel on which nothing is outstanding, and which has no consumer
pub placed_new : (t : Topology) (ch : Open) → ch.given.outstanding ≡ [] → ch.given.consumers ≡ [] → IsPlaced t ch
placed_new t ch e f = record { outstanding = none_within t ch.given.outstanding e; consumers = none_take t ch.given.consumers f; rise = none_rise ch.given.consumers f }

-- a channel is as it was, for all that is outstanding on it and for all its consumers
pub placed_as : (t : Topology) (ch new : Open) → IsPlaced t ch → new.given.outstanding ≡ ch.given.outstanding → new.given.consumers ≡ ch.given.consumers → IsPlaced t new
placed_as t ch new placed e f = record { outstanding = subst (AreWithin t) (sym e) placed.outstanding; consumers = subst (TakeWithin t) (sym f) placed.consumers; rise = subst NumbersRise (sym f) placed.rise }

-- this is the channel that is there
pub placed_some : (t : Topology) (new : Open) → IsPlaced t new → (k : Open) → Some new ≡ Some k → IsPlaced t k
placed_some t new placed k e = subst (IsPlaced t) (same_Some new k e) placed

-- the channels of one connection are gone
pub placed_gone : (old new : Kept) (c : ℕ) → topology_kept new ≡ topology_kept old → ((d k : ℕ) → channel_of new.connections d k ≡ with_row (channel_of old.connections) c (λ h. None) d k) → ArePlaced old → ArePlaced new
placed_gone old new c e gone placed d k x is = subst (λ (t : Topology). IsPlaced t x) (sym e) (go (d == c) (sym (gone d k) ∙ is))
  where
    go : (b : Bool) → (if b then None else channel_of old.connections d k) ≡ Some x → IsPlaced (topology_kept old) x
    go true f = absurd (false≢true (ap is_some f))
    go false f = placed d k x f

-- what is seen as nothing is nothing
none_seen : {A B : Type 0} (f : A → B) (xs : List A) → map f xs ≡ [] → xs ≡ []
none_seen f [] e = refl
none_seen f (x ∷ xs) e = absurd (let n : length (map f (x ∷ xs)) ≡ 0 = ap length e in omega (arith, n))

-- a channel that is seen as a new one has nothing outstanding and no consumer
new_placed : (t : Topology) (ch : Open) (b : Bool) → option_map (open_in []) (Some ch) ≡ (if b then Some new_channel else None) → IsPlaced t ch
new_placed t ch true e =
    let same = same_Some (open_in [] ch) new_channel e in
    placed_new t ch (none_seen (outstanding_in []) ch.given.outstanding (ap (λ (x : seen.Channel). x.outstanding) same)) (none_seen (consumer_in []) ch.given.consumers (ap (λ (x : seen.Channel). x.consumers) same))
new_placed t ch false e = absurd (false≢true (sym (ap is_some e)))

-- a connection runs, with new channels
pub placed_opened : (old new : Kept) (c max k : ℕ) → topology_kept new ≡ topology_kept old → OpensConnection old.connections c max k new.connections → ArePlaced old → ArePlaced new
placed_opened old new c max k e l placed d h x is = go (d == c) refl
  where
    go : (b : Bool) → (d == c) ≡ b → IsPlaced (topology_kept new) x
    go true f = new_placed (topology_kept new) x _ (ap (option_map (open_in [])) (sym is) ∙ l.channels_are [] d h ∙ ap (λ (b : Bool). if b then channels_up_to k h else seen_in [] old.connections d h) f)
    go false f = subst (λ (t : Topology). IsPlaced t x) (sym e) (placed d h x (sym (l.others_stay d h f) ∙ is))

-- one delivery more, from a queue that is there
pub within_more : (t : Topology) (given : List Delivery) (o : Delivery) → o.queue < length t.queues → AreWithin t given → AreWithin t (given ++ o ∷ [])
within_more t [] o lt within zero d l = lt
within_more t [] o lt within (suc k) d l = absurd (omega (arith, l))
within_more t (x ∷ xs) o lt within zero d l = within zero d (omega arith)
within_more t (x ∷ xs) o lt within (suc k) d l = within_more t xs o lt (λ i e m. within (suc i) e (omega (arith, m))) k d (omega (arith, l))

-- a message more was given out on a channel that is else as it was
pub placed_given : (t : Topology) (ch mid : Open) (place arrival : ℕ) (by : Taker) → place < length t.queues → mid.given.outstanding ≡ ch.given.outstanding → mid.given.consumers ≡ ch.given.consumers → IsPlaced t ch
    → IsPlaced t (given_on mid place arrival by)
placed_given t ch mid place arrival by lt same_given same_consumers placed = record {
  outstanding = within_more t mid.given.outstanding _ lt (subst (AreWithin t) (sym same_given) placed.outstanding);
  consumers = subst (TakeWithin t) (sym same_consumers) placed.consumers;
  rise = subst NumbersRise (sym same_consumers) placed.rise;
}

-- a qos leaves what is outstanding, and the consumers
pub same_limited : (ch : Open) (m : Qos) → (with_qos ch m).given.outstanding ≡ ch.given.outstanding
same_limited ch m = go m.global
  where
    go : (b : Bool) → (with_limit ch.given m.prefetch_count b).outstanding ≡ ch.given.outstanding
    go true = refl
    go false = refl

pub same_consumers_limited : (ch : Open) (m : Qos) → (with_qos ch m).given.consumers ≡ ch.given.consumers
same_consumers_limited ch m = go m.global
  where
    go : (b : Bool) → (with_limit ch.given m.prefetch_count b).consumers ≡ ch.given.consumers
    go true = refl
    go false = refl

-- ---- consumers

-- consumers take from queues that are there where their places are those of such queues
take_at : (n : ℕ) (consumers : List Consumer) → All (λ (i : ℕ). i < n) (places_of consumers) → All (λ (k : Consumer). k.queue < n) consumers
take_at n [] all i k lt = absurd (omega (arith, lt))
take_at n (x ∷ xs) all zero k lt = all zero x.queue (omega arith)
take_at n (x ∷ xs) all (suc i) k lt = take_at n xs (λ j p l. all (suc j) p (omega (arith, l))) i k (omega (arith, lt))

places_at : (n : ℕ) (consumers : List Consumer) → All (λ (k : Consumer). k.queue < n) consumers → All (λ (i : ℕ). i < n) (places_of consumers)
places_at n [] all i p lt = absurd (omega (arith, lt))
places_at n (x ∷ xs) all zero p lt = all zero x (omega arith)
places_at n (x ∷ xs) all (suc i) p lt = places_at n xs (λ j k l. all (suc j) k (omega (arith, l))) i p (omega (arith, lt))

place_more : (n : ℕ) (places : List ℕ) (p : ℕ) → p < n → All (λ (i : ℕ). i < n) places → All (λ (i : ℕ). i < n) (places ++ p ∷ [])
place_more n [] p lt all zero d l = lt
place_more n [] p lt all (suc k) d l = absurd (omega (arith, l))
place_more n (x ∷ xs) p lt all zero d l = all zero d (omega arith)
place_more n (x ∷ xs) p lt all (suc k) d l = place_more n xs p lt (λ i e m. all (suc i) e (omega (arith, m))) k d (omega (arith, l))

-- one consumer more, of a queue that is there
pub placed_made : (t : Topology) (old new : Open) (place : ℕ) (m : Consume) (tag : Text) → place < length t.queues → IsConsumerMade old place m tag new → NumbersRise new.given.consumers → IsPlaced t old → IsPlaced t new
placed_made t old new place m tag lt is_made rise placed = record {
  outstanding = subst (AreWithin t) (sym is_made.outstanding) placed.outstanding;
  consumers = take_at (length t.queues) new.given.consumers
      (subst (All (λ (i : ℕ). i < length t.queues)) (sym is_made.places) (place_more (length t.queues) (places_of old.given.consumers) place lt (places_at (length t.queues) old.given.consumers placed.consumers)));
  rise = rise;
}

-- without the consumers of a tag
pub placed_cancelled : (t : Topology) (ch : Open) (tag : Text) (consumer_room : ℕ) → IsPlaced t ch → IsPlaced t (without_named ch tag consumer_room)
placed_cancelled t ch tag consumer_room placed = record {
  outstanding = placed.outstanding;
  consumers = All-filter (λ (k : Consumer). not (is_named tag k)) (λ (k : Consumer). k.queue < length t.queues) ch.given.consumers placed.consumers;
  rise = (placed.rise.0, numbered_filter placed.rise.0 (λ (k : Consumer). not (is_named tag k)) ch.given.consumers placed.rise.1);
}

-- the consumer takes from a queue that is there
pub takes_within : (t : Topology) (k : Consumer) (consumers : List Consumer) → TakeWithin t consumers → IsIn k consumers → k.queue < length t.queues
takes_within t k [] all i = absurd i
takes_within t k (x ∷ xs) all (inl e) = subst (λ (y : Consumer). y.queue < length t.queues) (sym e) (all zero x (omega arith))
takes_within t k (x ∷ xs) all (inr i) = takes_within t k xs (λ j y l. all (suc j) y (omega (arith, l))) i
