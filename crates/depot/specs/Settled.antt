-- Settling deliveries, by the indices of their queues and by their names.
use Rattle.std.specs.Prelude.{◌≡◌, ◌<◌, ◌≤◌, ◌++◌, ℕ, List, [], length, map, filter, not, count_by, All, slice_index_or, slice_set}
use Rattle.model.specs.Words.{Text}
use Rattle.model.specs.Topology.{Topology, queue_names, IsWellFormed}
use Rattle.model.specs.Entries.{is_under, is_held_as, freed}
use Rattle.model.specs.Deliveries.{Settlement, AreSettled, Returns}
use Rattle.model.specs.declared.messages.Entry.{Entry}
use Rattle.model.specs.declared.messages.Holder.{Holder}
use Rattle.model.specs.declared.notes.Note.{Note}
use Rattle.exchange_graph.specs.Marks.{queue_name}
use Rattle.model.specs.Placed.{holder_of_delivery, outstanding_in}
use Rattle.model.specs.declared.deliveries.Delivery.{Delivery}
use Rattle.depot.specs.declared.departures.Departure.{Departure}
use Rattle.model.specs.declared.deliveries.ChannelId.{ChannelId}
use Rattle.queue.specs.Line.{Line}
use Rattle.depot.specs.Store.{Store, entries_named, entries_of}

-- The deliveries `gone` of channel `h` of connection `c` were settled as `how` says, one after another. The notes of that are appended, and
-- nothing else changed.
pub record AreSettledBy (how : Settlement) (old : Store) (c h : ℕ) (gone : List Delivery) (before after : List Note) (new : Store) : Type 0 where
  pub noted : List Note
  pub appended : after ≡ before ++ noted
  pub settled : AreSettled old.topology how c h
      (map (outstanding_in (queue_names old.topology.queues)) gone) (entries_named old) noted (entries_named new)
  pub counted : new.published ≡ old.published
  pub topology : new.topology ≡ old.topology

-- at most one message of each queue is held under one tag
abbrev pub IsHeldOnce : Store → Type 0
IsHeldOnce s = (q : Text) (holder : Holder) → count_by (is_held_as holder) (entries_named s q) ≤ 1

-- ---- by index

-- the queues of a topology with these entries, after `n` publishes
abbrev pub store_of : Topology → List (List Entry) → ℕ → Store
store_of t entries n = record { topology = t; queues = entries; published = n }

-- in a depot of this topology `AreSettledBy` holds of these queues, whatever the number of publishes
abbrev pub AreSettledIn : Settlement → Topology → ChannelId → List Delivery → List Line → List Line → List Note → List Note → Type 0
AreSettledIn how t id gone old new before after = (n : ℕ)
    → AreSettledBy how (store_of t (entries_of old) n) id.connection id.number gone before after (store_of t (entries_of new) n)

-- the deliveries are requeued, in a depot of any topology with these queues
abbrev pub AreReturnedIn : ChannelId → List Delivery → List Line → List Line → Type 0
AreReturnedIn id gone old new = (t : Topology) → IsWellFormed t → length old ≡ length t.queues → AreSettledIn Returns t id gone old new [] []

-- the queues without the message of this delivery
abbrev pub left_at : ℕ → ℕ → List (List Entry) → Delivery → List (List Entry)
left_at c h entries d =
    slice_set entries d.queue (filter (λ (e : Entry). not (is_held_as (holder_of_delivery c h d) e)) (slice_index_or entries d.queue []))

-- the queues with the message of this delivery ready again, in its place
abbrev pub returned_at : ℕ → ℕ → List (List Entry) → Delivery → List (List Entry)
returned_at c h entries d = slice_set entries d.queue (map (freed (is_under (holder_of_delivery c h d))) (slice_index_or entries d.queue []))

-- each delivery is from a queue with an index below `count`
abbrev pub AreOf : ℕ → List Delivery → Type 0
AreOf count ds = All (λ (d : Delivery). d.queue < count) ds

-- the delivery `d`, from a queue of the topology `t`, with the queue's name
abbrev pub departure_in : Topology → Delivery → Departure
departure_in t d = record { given = d; queue = queue_name t d.queue }
