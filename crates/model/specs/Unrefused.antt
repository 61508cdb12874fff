-- Commands that are not refused: what is done for a get and for a purge (AMQP 0-9-1, basic.get and queue.purge).
use Rattle.std.specs.Prelude.{◌≡◌, ℕ, [], ◌∷◌, Option, Some, None}
use Rattle.model.specs.Broker.{Connection}
use Rattle.model.specs.Deliveries.{first_ready}
use Rattle.model.specs.Step.{refusal, reply}
use Rattle.model.specs.Order.{GivesOut}
use Rattle.model.specs.Run.{Happening}
use Rattle.model.specs.declared.contents.Content.{Content}
use Rattle.model.specs.declared.messages.Entry.{Entry}
use Rattle.model.specs.declared.methods.Method.{Method}
use Rattle.model.specs.declared.methods.Method.TheVariants.{BasicGet, BasicGetEmpty, QueuePurge}
use Rattle.model.specs.declared.methods.Get.{Get}
use Rattle.model.specs.declared.methods.Purge.{Purge}
use Rattle.model.specs.declared.events.Event.TheVariants.{Command}
use Rattle.model.specs.declared.events.Phase.TheVariants as phase

-- The event is the method `m` on channel `k` of connection `c`, which runs, and nothing refuses it.
pub record IsUnrefused (h : Happening) (c k : ℕ) (m : Method) : Type 0 where
  pub content : Option Content
  pub event : h.event ≡ Command c k m content
  pub runs : (h.before.session c).phase ≡ phase.Running
  pub connection : Connection
  pub there : h.before.broker.connection c ≡ Some connection
  pub accepted : refusal h.config.topology h.before.broker connection k m (h.before.broker.channel c k) ≡ None

-- A get is answered by the first ready message of its queue, or by get-empty if there is none.
abbrev pub GivesOrIsEmpty : Happening → ℕ → ℕ → Get → Option Entry → Type 0
GivesOrIsEmpty h c k m (Some e) = GivesOut h m.queue e
GivesOrIsEmpty h c k m None = h.sends ≡ reply c k (BasicGetEmpty []) ∷ []

-- Each get that is not refused is answered by the first ready message of its queue, or by get-empty if there is none.
abbrev pub GetsAreAnswered : Happening → Type 0
GetsAreAnswered h = (c k : ℕ) (m : Get) → IsUnrefused h c k (BasicGet m) → GivesOrIsEmpty h c k m (first_ready (h.before.broker.queue m.queue))

-- A purge that is not refused leaves no ready message in its queue.
abbrev pub PurgesLeaveNone : Happening → Type 0
PurgesLeaveNone h = (c k : ℕ) (m : Purge) → IsUnrefused h c k (QueuePurge m) → first_ready (h.after.broker.queue m.queue) ≡ None
