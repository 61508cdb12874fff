-- How each message came to the queue where it is: by the route of its publish, and then by deaths (own). Start with `AreKept`.
use Rattle.std.specs.Prelude.{◌≡◌, ◌≢◌, ◌≤◌, List, length, Contains, false}
use Rattle.model.specs.Words.{Text}
use Rattle.model.specs.Topology.{Topology, IsIn, queue_names}
use Rattle.model.specs.Routing.{Routes, Dies, Later, key_after}
use Rattle.model.specs.Guarantee.{Guarantee, Covers}
use Rattle.model.specs.Message.{Message}
use Rattle.model.specs.Broker.{Broker}
use Rattle.model.specs.State.{Config}
use Rattle.model.specs.declared.topologies.DeclaredQueue.{DeclaredQueue}
use Rattle.model.specs.declared.topologies.Mode.TheVariants.{Never}
use Rattle.model.specs.declared.messages.Entry.{Entry}

-- `HasCome t x key y k q`: a publish that was sent to the exchange `x` under `key` has reached the queue `q`,
-- last sent to the exchange `y` under `k`: by its own route, or by a death in a queue that it had reached.
pub data HasCome (t : Topology) (x key : Text) : Text → Text → Text → Type 0 where
  by_publish : {q : Text} → Routes t x key q → HasCome t x key x key q
  by_death : {y k p exchange q : Text} (last : DeclaredQueue) → HasCome t x key y k p → Dies t p exchange last
      → Routes t exchange (key_after last.dead_letter_key k) q
      → HasCome t x key exchange (key_after last.dead_letter_key k) q

-- The message came to the queue `q` from where it was first sent, under a key of at most 255 bytes.
pub record HasComeTo (t : Topology) (q : Text) (m : Message) : Type 0 where
  pub short : length m.first_key ≤ 255
  pub come : HasCome t m.first_exchange m.first_key m.exchange m.key q

-- The messages `m` and `o` were first sent to the same exchange under the same key.
pub record AreSentAlike (m o : Message) : Type 0 where
  pub exchange : m.first_exchange ≡ o.first_exchange
  pub key : m.first_key ≡ o.first_key

-- What is true of the broker's messages while the topology stays the same.
pub record AreTraced (t : Topology) (b : Broker) : Type 0 where
  -- Each message came to its queue.
  pub each : (q : Text) (e : Entry) → IsIn e (b.queue q) → HasComeTo t q e.message
  -- Messages with the same publish number were first sent to the same exchange under the same key.
  pub alike : (q r : Text) (e d : Entry) → IsIn e (b.queue q) → IsIn d (b.queue r) → e.message.number ≡ d.message.number → AreSentAlike e.message d.message

-- No message is in a queue where a guarantee forbids it, and dead letters can bring no message from its queue to such a queue.
abbrev pub AreSafe : Topology → List Guarantee → Broker → Type 0
AreSafe t gs b = (q : Text) (e : Entry) → IsIn e (b.queue q) → (g : Guarantee) → Contains gs g → g.mode ≡ Never
    → Covers g e.message.first_exchange e.message.first_key
    → (q ≢ g.queue) × (Later t q e.message.key g.queue → ⊥)

-- ---- what is true of the broker's messages, also through reloads

-- The message may be in the queue `q`, under the configuration in force.
pub record MayBeIn (f : Config) (q : Text) (m : Message) : Type 0 where
  -- The queue is one of the topology.
  pub housed : IsIn q (queue_names f.topology.queues)
  -- A publish can have the message's first key: it has at most 255 bytes.
  pub short : length m.first_key ≤ 255
  -- No `never` guarantee that covers the message names a queue that the message can still reach by dead-lettering. Nor does one name
  -- the queue that the message is in, unless the message has been there since before the last reload.
  pub safe : (g : Guarantee) → Contains f.guarantees g → g.mode ≡ Never → Covers g m.first_exchange m.first_key
      → (Later f.topology q m.key g.queue → ⊥) × (m.survived ≡ false → q ≢ g.queue)

-- What is true of the broker's messages, also through reloads.
pub record AreKept (f : Config) (b : Broker) : Type 0 where
  -- Each message is allowed to be in the queue that it is in (`MayBeIn`).
  pub each : (q : Text) (e : Entry) → IsIn e (b.queue q) → MayBeIn f q e.message
  -- Messages with the same publish number were first sent to the same exchange under the same key.
  pub alike : (q r : Text) (e d : Entry) → IsIn e (b.queue q) → IsIn d (b.queue r) → e.message.number ≡ d.message.number → AreSentAlike e.message d.message

-- ---- before any reload

-- No message was in a queue when a reload was done.
abbrev pub NoneSurvived : Broker → Type 0
NoneSurvived b = (q : Text) (e : Entry) → IsIn e (b.queue q) → e.message.survived ≡ false
