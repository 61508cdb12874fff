-- Deliveries as channels and queues keep them: queues are given by their index in the definitions file.
use Rattle.std.specs.Prelude.{◌<◌, ◌==◌, ℕ, List, [], length, filter, not, Bool, All, slice_index_or}
use Rattle.model.specs.Words.{Text}
use Rattle.model.specs.Topology.{Topology}
use Rattle.model.specs.Broker.{Outstanding}
use Rattle.model.specs.Settling.{Rises}
use Rattle.model.specs.declared.deliveries.Delivery.{Delivery}
use Rattle.model.specs.declared.messages.Holder.{Holder}

-- Whether the delivery is unacknowledged. A settled one has tag 0, which is never given out (AMQP 0-9-1, basic.ack, "delivery-tag").
abbrev pub is_waiting : Delivery → Bool
is_waiting d = not (d.tag == 0)

-- The deliveries that are unacknowledged, in order.
abbrev pub waiting : List Delivery → List Delivery
waiting ds = filter is_waiting ds

-- The holder of the delivery `d` on channel `h` of connection `c`.
abbrev pub holder_of_delivery : ℕ → ℕ → Delivery → Holder
holder_of_delivery c h d = record { connection = c; channel = h; tag = d.tag; by = d.by }

-- The delivery `d` with its queue's name in place of its queue's index; `names` are the names of the queues in the order of the file.
abbrev pub outstanding_in : List Text → Delivery → Outstanding
outstanding_in names d = record { tag = d.tag; queue = slice_index_or names d.queue []; by = d.by }

-- Each of the deliveries is from a queue at an index of the file.
abbrev pub AreWithin : Topology → List Delivery → Type 0
AreWithin t ds = All (λ (d : Delivery). d.queue < length t.queues) ds

-- The deliveries are in the order of their tags.
abbrev pub AreByTag : List Delivery → Type 0
AreByTag ds = Rises (λ (d : Delivery). d.tag) ds
