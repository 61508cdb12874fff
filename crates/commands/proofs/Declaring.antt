-- A declare that asks whether a queue is there, answered by what is counted of it.
use Rattle.commands.proofs.Names.{◌≡◌, ◌∙◌, ◌<◌, ◌+◌, ℕ, List, [], ◌∷◌, Bool, true, false, cond, Option, None, get_or, map, sum_by, nat_le, inl, inr, refl, sym, ap, arith, option_map, min, bytes_eq, eqb-true, eq-eqb, false≢true, leb_tells, nat_tests, All-head, All-tail, bytes_eq-Decides, Text, Topology, AreDistinct, queue_names, ready_in, written_count, Finds, declare_sends, queue_declared, greatest, QueueDeclareOk, Send, Note, Entry, queue_name, queue_at, entries_named, IsQueueNamed, open_in, consumer_in, takes_from, channel_of, consumers_at, CountsConsumers, TakeWithin, IsPlaced, Kept, ArePlaced, broker_of, topology_kept, names_of}
use Rattle.std.proofs.Common.{◌==◌, Some, length, count_by, if◌then◌else◌}
use Rattle.std.proofs.lemmas.List.Sums.{sum_by-cons}
use Rattle.model.specs.Broker as seen
use Rattle.model.specs.Declaring.{ChannelName, HasConsumers, consumers_on}
use Rattle.model.specs.declared.methods.QueueDeclare.{QueueDeclare}
use Rattle.channels.specs.Open.{Open}
use Rattle.channels.specs.declared.consumers.Consumer.{Consumer}
use Rattle.commands.proofs.Picking.{same_place}
use Rattle.commands.proofs.Stepping.{seen_there}

-- ---- what is counted by the place of a queue is counted by its name

-- a consumer takes from the queue of this name where it takes from its place
by_place : (t : Topology) (place : ℕ) (name : Text) (k : Consumer) → AreDistinct (queue_names t.queues) → place < length t.queues → queue_name t place ≡ name → k.queue < length t.queues
    → bytes_eq (get_or (queue_names t.queues) k.queue []) name ≡ takes_from place k
by_place t place name k distinct lt named within = go (k.queue == place) refl
  where
    other : (b : Bool) → bytes_eq (queue_name t k.queue) name ≡ b → (k.queue == place) ≡ false → b ≡ false
    other true is differs = absurd (false≢true (sym differs ∙ eq-eqb k.queue place (same_place t k.queue place distinct within lt ((bytes_eq-Decides (queue_name t k.queue) name).0 is ∙ sym named))))
    other false is differs = refl

    go : (b : Bool) → (k.queue == place) ≡ b → bytes_eq (queue_name t k.queue) name ≡ b
    go true is = (bytes_eq-Decides (queue_name t k.queue) name).1 (ap (queue_name t) (eqb-true k.queue place is) ∙ named)
    go false is = other (bytes_eq (queue_name t k.queue) name) refl is

all_by_place : (t : Topology) (place : ℕ) (name : Text) (ks : List Consumer) → AreDistinct (queue_names t.queues) → place < length t.queues → queue_name t place ≡ name → TakeWithin t ks
    → count_by (λ (x : seen.Consumer). bytes_eq x.queue name) (map (consumer_in (queue_names t.queues)) ks) ≡ count_by (takes_from place) ks
all_by_place t place name [] distinct lt named within = refl
all_by_place t place name (k ∷ ks) distinct lt named within =
    let names = queue_names t.queues in
    sum_by-cons (λ (x : seen.Consumer). cond (bytes_eq x.queue name) 1 0) (consumer_in names k) (map (consumer_in names) ks)
    ∙ ap (λ (b : Bool). cond b 1 0 + count_by (λ (x : seen.Consumer). bytes_eq x.queue name) (map (consumer_in names) ks)) (by_place t place name k distinct lt named (All-head (λ (x : Consumer). x.queue < length t.queues) k ks within))
    ∙ ap (λ (n : ℕ). cond (takes_from place k) 1 0 + n) (all_by_place t place name ks distinct lt named (All-tail (λ (x : Consumer). x.queue < length t.queues) k ks within))
    ∙ sym (sum_by-cons (λ (x : Consumer). cond (takes_from place x) 1 0) k ks)

-- the same on a channel
on_channel : (t : Topology) (place : ℕ) (name : Text) (o : Option Open) → AreDistinct (queue_names t.queues) → place < length t.queues → queue_name t place ≡ name → ((ch : Open) → o ≡ Some ch → IsPlaced t ch)
    → consumers_at place o ≡ consumers_on name (option_map (open_in (queue_names t.queues)) o)
on_channel t place name None distinct lt named placed = refl
on_channel t place name (Some ch) distinct lt named placed = sym (all_by_place t place name ch.given.consumers distinct lt named (placed ch refl).consumers)

-- and on all of them
same_sum : {A : Type 0} (f g : A → ℕ) (xs : List A) → ((x : A) → f x ≡ g x) → sum_by f xs ≡ sum_by g xs
same_sum f g [] same = refl
same_sum f g (x ∷ xs) same =
    sum_by-cons f x xs
    ∙ ap (λ (n : ℕ). n + sum_by f xs) (same x)
    ∙ ap (λ (n : ℕ). g x + n) (same_sum f g xs same)
    ∙ sym (sum_by-cons g x xs)

-- the consumers on these channels that take from the queue at a place
abbrev counted_on : Kept → ℕ → List ChannelName → ℕ
counted_on kept place channels = sum_by (λ (x : ChannelName). consumers_at place (channel_of kept.connections x.connection x.number)) channels

has_consumers : (kept : Kept) (place count : ℕ) (name : Text) → ArePlaced kept → AreDistinct (names_of kept) → place < length (topology_kept kept).queues → queue_name (topology_kept kept) place ≡ name
    → (is : CountsConsumers kept.connections place count) → HasConsumers (broker_of kept) name (counted_on kept place is.channels)
has_consumers kept place count name placed distinct lt named is = record {
  channels = is.channels;
  all = λ c h ch there. let found = seen_there (names_of kept) (channel_of kept.connections c h) ch there in is.all c h found.kept found.there;
  distinct = is.distinct;
  counted = same_sum _ _ is.channels (λ x. on_channel (topology_kept kept) place name (channel_of kept.connections x.connection x.number) distinct lt named (placed x.connection x.number));
}

-- ---- the answer

-- a count is written as it is if the greatest number is written for any above it
written_same : (n : ℕ) → written_count (min n greatest) ≡ written_count n
written_same n = elim (leb_tells n 4294967295) [
  | inl a ↦ let le = a.1 in let same : min n greatest ≡ n = omega (arith, le) in ap written_count same
  | inr a ↦
      let lt = a.1 in
      let more : nat_le (min n greatest) 4294967295 ≡ false = grind (arith, nat_tests, lt) in
      ap (λ (b : Bool). if b then min n greatest else 4294967295) more ∙ sym (ap (λ (b : Bool). if b then n else 4294967295) a.0)
]

pub found_is : (kept : Kept) (c h place ready count : ℕ) (m : QueueDeclare) (sends : List Send) (notes : List Note) → ArePlaced kept → AreDistinct (names_of kept)
    → place < length (topology_kept kept).queues → queue_name (topology_kept kept) place ≡ m.queue → IsQueueNamed kept.store place → ready ≡ ready_in (queue_at kept.store place) → CountsConsumers kept.connections place count
    → sends ≡ declare_sends c h m.no_wait (queue_declared m.queue ready count) → notes ≡ [] → Finds (broker_of kept) c h m sends notes (broker_of kept)
found_is kept c h place ready count m sends notes placed distinct lt named at ready_is is sent noted =
    let total = counted_on kept place is.channels in
    let here : queue_at kept.store place ≡ entries_named kept.store m.queue = sym at.entries_are ∙ ap (entries_named kept.store) named in
    let all : ready ≡ ready_in (entries_named kept.store m.queue) = ready_is ∙ ap (λ (es : List Entry). ready_in es) here in
    let written : written_count count ≡ written_count total = ap written_count is.counted ∙ written_same total in
    record {
      consumers = total;
      has = has_consumers kept place count m.queue placed distinct lt named is;
      does = record {
        sent = sent
            ∙ ap (λ (n : ℕ). declare_sends c h m.no_wait (queue_declared m.queue n count)) all
            ∙ ap (λ (n : ℕ). declare_sends c h m.no_wait (QueueDeclareOk (record { queue = m.queue; message_count = written_count (ready_in (entries_named kept.store m.queue)); consumer_count = n }))) written;
        noted = noted;
        left = record { counted = refl; queues = λ q. refl; connections = λ d. refl; channels = λ d k. refl };
      };
    }
