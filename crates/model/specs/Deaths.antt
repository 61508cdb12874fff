-- Dead letters: what becomes of a message that is rejected and not requeued. Source: RabbitMQ, "Dead Letter
-- Exchanges"; that a dead letter is made in the event of its rejection, and which headers it gets, is own.
use Rattle.std.specs.Prelude.{◌≡◌, List, [], ◌∷◌, ◌++◌, length, codes, false, ◌⊎◌, Option, Some, None}
use Rattle.model.specs.Words.{Text}
use Rattle.model.specs.Tables.{Pairs, no_pairs, pair, Long_string, pairs_bytes, HavePairsSpelling}
use Rattle.model.specs.Topology.{Topology, queue_names}
use Rattle.model.specs.Routing.{Routes, Picks, key_after}
use Rattle.model.specs.Message.{Message}
use Rattle.model.specs.Broker.{queue_named}
use Rattle.model.specs.Entering.{entry_notes, comes_to}
use Rattle.model.specs.declared.topologies.DeclaredQueue.{DeclaredQueue}
use Rattle.model.specs.declared.contents.Content.{Content}
use Rattle.model.specs.declared.messages.Entry.{Entry}
use Rattle.model.specs.declared.notes.Cause.TheVariants.{Rejected}
use Rattle.model.specs.declared.notes.Note.{Note}
use Rattle.model.specs.declared.notes.Note.TheVariants.{Left}
use Rattle.model.specs.declared.notes.Way.TheVariants as way

-- ---- the headers of the first death

-- The field that names the queue of the first death.
abbrev pub death_queue : Text
death_queue = codes "x-first-death-queue"

-- The field that gives the reason of the first death, which is a rejection.
abbrev pub death_reason : Text
death_reason = codes "x-first-death-reason"

-- The field that names the exchange to which the message was sent before its first death.
abbrev pub death_exchange : Text
death_exchange = codes "x-first-death-exchange"

-- The three fields of a first death in `queue`, of a message that was last sent to `exchange`, as the bytes of their pairs.
abbrev pub first_death : Text → Text → Text
first_death queue exchange =
    pairs_bytes (pair death_queue (Long_string queue)
    (pair death_reason (Long_string (codes "rejected")) (pair death_exchange (Long_string exchange) no_pairs)))

-- The table has a field called `name`.
abbrev pub IsFieldOf : Pairs → Text → Type 0
IsFieldOf no_pairs name = ⊥
IsFieldOf (pair other v ps) name = (other ≡ name) ⊎ IsFieldOf ps name

-- The headers tell of a first death: they are the pairs of a table, one of which is the field that names the queue of that death.
pub record DescribesDeath (headers : Text) : Type 0 where
  pub pairs : Pairs
  pub fits : HavePairsSpelling pairs
  pub spelled : headers ≡ pairs_bytes pairs
  pub field : IsFieldOf pairs death_queue

-- There are no headers, or they tell of no first death.
abbrev pub IsUnmarked : Option Text → Type 0
IsUnmarked None = Unit {0}
IsUnmarked (Some headers) = DescribesDeath headers → ⊥

-- The second headers are those of a message that dies in `queue`, last sent to `exchange`, if it had the first:
-- the three fields of this death are appended, or, if the headers tell of an earlier death, nothing changes.
pub data AreMarked (queue exchange : Text) : Option Text → Option Text → Type 0 where
  alone : AreMarked queue exchange None (Some (first_death queue exchange))
  added : {headers : Text} → IsUnmarked (Some headers) → AreMarked queue exchange (Some headers) (Some (headers ++ first_death queue exchange))
  marked_before : {headers : Text} → DescribesDeath headers → AreMarked queue exchange (Some headers) (Some headers)

-- ---- the dead letter

-- The content with other headers.
abbrev pub with_headers : Content → Option Text → Content
with_headers content headers = record content { properties = record content.properties { headers = headers } }

-- The message as it is sent to `exchange` under `key` with this content: it keeps its number and its first exchange and key, and counts as not delivered.
abbrev pub dead_letter : Message → Text → Text → Content → Message
dead_letter m exchange key content = record m { exchange = exchange; key = key; content = content; redelivered = false; survived = false }

-- The message `m` dies in the queue `p`, and its dead letter goes to `exchange`: under the queue's dead-letter key, or else its
-- own key, into each routed queue that is not full, in file order. It is not confirmed, nor returned if it is routed nowhere.
pub record IsDeath (t : Topology) (p : DeclaredQueue) (exchange : Text) (queues : Text → List Entry) (m : Message) (notes : List Note)
    (new : Text → List Entry) : Type 0 where
  pub headers : Option Text
  pub marked : AreMarked p.name m.exchange m.content.properties.headers headers
  pub targets : List Text
  pub routed : Picks (Routes t exchange (key_after p.dead_letter_key m.key)) (queue_names t.queues) targets
  pub noted : notes ≡ entry_notes t queues (length m.content.body) m.number way.Dead targets
  pub left : (q : Text) → new q ≡ queues q ++ comes_to t queues
      (dead_letter m exchange (key_after p.dead_letter_key m.key) (with_headers m.content headers)) q targets

-- Nothing is noted, and the queues stay as they are.
abbrev pub NothingComes : (Text → List Entry) → List Note → (Text → List Entry) → Type 0
NothingComes queues notes new = (notes ≡ []) × ((q : Text) → new q ≡ queues q)

-- What becomes of a rejected message that has left the queue `p`: its dead letter is
-- sent to the queue's dead-letter exchange, or the message is gone if there is none.
abbrev pub DiesBy : Topology → DeclaredQueue → (Text → List Entry) → Message → List Note → (Text → List Entry) → Option Text → Type 0
DiesBy t p queues m notes new None = NothingComes queues notes new
DiesBy t p queues m notes new (Some exchange) = IsDeath t p exchange queues m notes new

-- What becomes of a rejected message that has left a queue, by the queue's declaration: as `DiesBy` says, or it is gone if the queue is not declared.
abbrev pub DiesIn : Topology → (Text → List Entry) → Message → List Note → (Text → List Entry) → Option DeclaredQueue → Type 0
DiesIn t queues m notes new None = NothingComes queues notes new
DiesIn t queues m notes new (Some p) = DiesBy t p queues m notes new p.dead_letter_exchange

-- What becomes of a message that is rejected in the queue `name`, if one was found; `queues` are without it. The notes say first
-- that it left by a rejection, and then what became of its dead letter. Nothing happens if none was found.
abbrev pub MayDie : Topology → Text → (Text → List Entry) → List Note → (Text → List Entry) → Option Entry → Type 0
MayDie t name queues notes new None = NothingComes queues notes new
MayDie t name queues notes new (Some e) =
    (rest : List Note) × (notes ≡ Left e.message.number name Rejected ∷ rest) × DiesIn t queues e.message rest new (queue_named t.queues name)
