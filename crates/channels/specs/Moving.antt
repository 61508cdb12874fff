-- Unacknowledged deliveries and consumers after a reload has given their queues new indices (own).
use Rattle.std.specs.Prelude.{◌≡◌, ℕ, List, [], map, slice_index_or}
use Rattle.std.specs.List.{AllByRecursion}
use Rattle.model.specs.Words.{Text}
use Rattle.channels.specs.Deliveries.{Given}
use Rattle.channels.specs.Open.{Open}
use Rattle.model.specs.declared.deliveries.Delivery.{Delivery}
use Rattle.channels.specs.declared.consumers.Consumer.{Consumer}
use Rattle.channels.specs.declared.consumers.CountedConsumer.{CountedConsumer}

-- the new index of the queue at index `p`, from the table `places`; `p` itself if it is past the table's end
abbrev pub place_now : List ℕ → ℕ → ℕ
place_now places p = slice_index_or places p p

-- a delivery, with its queue's new index
abbrev pub outstanding_moved : List ℕ → Delivery → Delivery
outstanding_moved places o = record o { queue = place_now places o.queue }

-- a consumer, with its queue's new index
abbrev pub consumer_moved : List ℕ → Consumer → Consumer
consumer_moved places c = record c { queue = place_now places c.queue }

-- a consumer with its count, with its queue's new index
abbrev pub counted_moved : List ℕ → CountedConsumer → CountedConsumer
counted_moved places s = record s { consumer = consumer_moved places s.consumer }

-- the deliveries and consumers of a channel, with their queues' new indices
abbrev pub given_moved : List ℕ → Given → Given
given_moved places g = record g { consumers = map (consumer_moved places) g.consumers; outstanding = map (outstanding_moved places) g.outstanding }

-- a channel, with the new indices of the queues of its deliveries and consumers
abbrev pub open_moved : List ℕ → Open → Open
open_moved places ch = record ch { given = given_moved places ch.given }

-- the queue at this index has the same name as the one at its new index
abbrev pub IsNamedAlike : List Text → List Text → List ℕ → ℕ → Type 0
IsNamedAlike old new places p = slice_index_or new (place_now places p) [] ≡ slice_index_or old p []

-- Each queue that the channel names has the same name at its new index.
pub record AreNamedAlike (old new : List Text) (places : List ℕ) (ch : Open) : Type 0 where
  pub outstanding : AllByRecursion (λ (o : Delivery). IsNamedAlike old new places o.queue) ch.given.outstanding
  pub consumers : AllByRecursion (λ (c : Consumer). IsNamedAlike old new places c.queue) ch.given.consumers
