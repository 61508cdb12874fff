-- A line is as long as its queue has consumers.
use Rattle.broker.proofs.Names.{◌∙◌, ◌<◌, ◌≤◌, ℕ, List, Some, length, min, refl, sym, ap, subst, arith, option_map, IsIn, queue_name, IsStoreWhole, ArePlaced, channel_of, consumer_in, open_in, Kept, names_of, Pick, Queue, line_of, order, HasConsumer, AreKept, consumer_at}
use Rattle.std.proofs.Common.{◌≡◌}
use Rattle.model.specs.Step.{greatest}
use Rattle.channels.specs.Counting.{CountsConsumers, HasChannels}
use Rattle.channels.specs.Open.{Open}
use Rattle.channels.specs.declared.consumers.Consumer.{Consumer}
use Rattle.channels.proofs.Listed.{IsInLineAs, IsTakerOf, listed_counted}
use Rattle.commands.specs.State.{broker_of, topology_kept}
use Rattle.commands.proofs.Reloading.{in_mapped}
use Rattle.broker.proofs.Leaving.{has_index}
use Rattle.broker.proofs.Takers.{of_has}

module _ (kept : Kept) (lines : List (Queue Pick)) (whole : IsStoreWhole kept.store) (placed : ArePlaced kept) (listed : HasChannels kept.connections) (k : AreKept kept lines)
    (queue : ℕ) (lt : queue < length (topology_kept kept).queues) where
  own : (p : Pick) → IsIn p (order (line_of lines queue)) → IsTakerOf (λ (q : Pick). q.connection) (λ q. q.channel) (λ q. q.number) kept.connections queue p
  own p i =
      let at = has_index kept whole placed queue p (of_has kept queue p ((k.own queue).there p i)) in
      record { channel = at.channel; there = at.there; consumer = at.one; listed = at.among; numbered = at.numbered; takes = at.queue }

  all : (d l : ℕ) (ch : Open) (one : Consumer) → channel_of kept.connections d l ≡ Some ch → IsIn one ch.given.consumers → one.queue ≡ queue
      → IsInLineAs (λ (q : Pick). q.connection) (λ q. q.channel) (λ q. q.number) (order (line_of lines queue)) d l one.number
  all d l ch one there among takes = record {
    one = consumer_at d l one.number;
    listed = k.joined queue (consumer_at d l one.number) has;
    connection = refl;
    channel = refl;
    numbered = refl;
  }
    where
      has : HasConsumer (topology_kept kept) (broker_of kept) queue (consumer_at d l one.number)
      has = record {
        consumer = consumer_in (names_of kept) one;
        was = (open_in (names_of kept) ch, ap (option_map (open_in (names_of kept))) there, in_mapped (consumer_in (names_of kept)) one ch.given.consumers among);
        numbered = refl;
        within = lt;
        named = ap (queue_name (topology_kept kept)) (sym takes);
      }

  pub line_counted : (count : ℕ) → (count ≡ length (order (line_of lines queue))) × (count ≤ greatest) → CountsConsumers kept.connections queue count
  line_counted count is =
      let same = is.0 in
      let most = is.1 in
      let e : min (length (order (line_of lines queue))) greatest ≡ count = omega (arith, same, most) in
      subst (CountsConsumers kept.connections queue) e
      (listed_counted (λ (q : Pick). q.connection) (λ q. q.channel) (λ q. q.number)
      (λ p q a b d. ap (λ (n : ℕ). consumer_at n p.channel p.number) a ∙ ap (λ (n : ℕ). consumer_at q.connection n p.number) b ∙ ap (consumer_at q.connection q.channel) d)
      kept.connections queue (order (line_of lines queue)) listed (λ c h ch at. (placed c h ch at).rise) (k.own queue).once own all)
