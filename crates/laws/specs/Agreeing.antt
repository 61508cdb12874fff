-- Held messages and unacknowledged deliveries stay in agreement.
use Rattle.std.specs.Prelude.{List, [], ◌∷◌, codes, false, None, Some}
use Rattle.model.specs.Topology.{Topology}
use Rattle.model.specs.Broker.{Outstanding, Channel, Broker, new_channel, with_one, with_pair}
use Rattle.model.specs.Entries.{held_as}
use Rattle.model.specs.Deliveries.{holder_of}
use Rattle.model.specs.Step.{Acts}
use Rattle.model.specs.Run.{empty_broker}
use Rattle.model.specs.Agreement.{IsAgreed}
use Rattle.model.specs.declared.events.Send.{Send}
use Rattle.model.specs.declared.events.Event.{Event}
use Rattle.model.specs.declared.messages.Entry.{Entry}
use Rattle.model.specs.declared.messages.Holder.{Holder}
use Rattle.model.specs.declared.messages.Taker.TheVariants as taker
use Rattle.model.specs.declared.notes.Note.{Note}
use Rattle.laws.specs.Rows.{first_entry, one_queue}

-- Held messages and unacknowledged deliveries agree in the empty broker, and each event keeps them so.
pub record BrokersStayAgreed : Type 0 where
  pub empty : IsAgreed empty_broker
  pub acts : (t : Topology) (old new : Broker) (e : Event) (sends : List Send) (notes : List Note) → IsAgreed old → Acts t old e sends notes new → IsAgreed new

-- ---- worked examples

-- The delivery of a get from `audit` under tag 1.
abbrev pub taken : Outstanding
taken = record { tag = 1; queue = codes "audit"; by = taker.Get }

-- A channel on which the delivery `taken` is unacknowledged.
abbrev pub with_taken : Channel
with_taken = record new_channel { next_tag = 2; outstanding = taken ∷ [] }

-- A broker with `with_taken` as channel 1 of connection 1, and with these entries in the queue `audit`.
abbrev pub broker_of_taken : List Entry → Broker
broker_of_taken entries = record {
  published = 1;
  queue = one_queue (codes "audit") entries;
  connection = with_one (λ c. None) 1 (Some (record { channel_max = 1; is_paused = false }));
  channel = with_pair (λ c h. None) 1 1 (Some with_taken);
}

-- The first publish, held by `holder`.
abbrev pub first_held : Holder → Entry
first_held holder = held_as holder first_entry

-- If a delivery is unacknowledged, only its own entry in its queue agrees with it.
pub record AgreementRefuses : Type 0 where
  -- The entry is there once, held by its channel under its tag.
  pub both : IsAgreed (broker_of_taken (first_held (holder_of 1 1 taken) ∷ []))
  -- The message is in no queue.
  pub nowhere : IsAgreed (broker_of_taken []) → ⊥
  -- The entry is ready, as if it had not been given out.
  pub ready : IsAgreed (broker_of_taken (first_entry ∷ [])) → ⊥
  -- The entry is held for a consumer, though the delivery is of a get.
  pub other_taker : IsAgreed (broker_of_taken (first_held (record { connection = 1; channel = 1; tag = 1; by = taker.Consumer 1 }) ∷ [])) → ⊥
  -- The entry is held under another tag.
  pub other_tag : IsAgreed (broker_of_taken (first_held (record { connection = 1; channel = 1; tag = 2; by = taker.Get }) ∷ [])) → ⊥
  -- The entry is there twice.
  pub twice : IsAgreed (broker_of_taken (first_held (holder_of 1 1 taken) ∷ first_held (holder_of 1 1 taken) ∷ [])) → ⊥
