-- The obstacles to a reload, index by index (own).
use Rattle.std.specs.Prelude.{◌≡◌, ◌+◌, ℕ, List, [], Bool, true, Option, Some, None, ◌⊎◌}
use Rattle.model.specs.Words.{Text}
use Rattle.model.specs.Topology.{Topology, IsIn, queue_names}
use Rattle.model.specs.Guarantee.{Guarantee}
use Rattle.model.specs.Reloading.{Endangers, IsObstacle, HasNoObstacle}
use Rattle.model.specs.Message.{Message}
use Rattle.model.specs.Broker.{Broker}
use Rattle.model.specs.State.{Config}
use Rattle.model.specs.declared.messages.Entry.{Entry}
use Rattle.model.specs.declared.obstacles.Obstacle.{Obstacle}
use Rattle.model.specs.declared.obstacles.Obstacle.TheVariants.{InUse, Breaks}
use Rattle.model.specs.declared.messages.User.{User}
use Rattle.reloading.specs.First.{ReportsFirst}
use Rattle.reloading.specs.LiveQueues.{ShowsQueues}

-- a queue with these entries is in use: it has one, or a consumer takes from it
abbrev pub IsUsed : List Entry → Bool → Type 0
IsUsed entries consumed = (entries ≡ [] → ⊥) ⊎ (consumed ≡ true)

-- the queue `q` is reported if it is in use
abbrev pub ReportsUse : List Entry → Bool → Text → Option Obstacle → Type 0
ReportsUse entries consumed q (Some o) = IsUsed entries consumed × (o ≡ InUse q)
ReportsUse entries consumed q None = IsUsed entries consumed → ⊥

-- the queue `q` is reported if it is in use and the new topology lacks it
abbrev pub ReportsQueue : Topology → (ℕ → List Entry) → (ℕ → Bool) → ℕ → Text → Option Obstacle → Type 0
ReportsQueue new entries consumed p q (Some o) = (IsIn q (queue_names new.queues) → ⊥) × ReportsUse (entries p) (consumed p) q (Some o)
ReportsQueue new entries consumed p q None = (IsIn q (queue_names new.queues) → ⊥) → ReportsUse (entries p) (consumed p) q None

-- Two messages were first published to the same exchange with the same key, and have the same key now.
pub record AreAlike (m o : Message) : Type 0 where
  pub key : m.key ≡ o.key
  pub exchange : m.first_exchange ≡ o.first_exchange
  pub first_key : m.first_key ≡ o.first_key

-- the guarantee endangers no message of the queue `q`, whatever the message is
abbrev pub EndangersNone : Topology → Guarantee → Text → Type 0
EndangersNone new g q = (m : Message) → Endangers new g q m → ⊥

-- the guarantee `g`, number `number`, endangers the entry `e` of the queue `q`, and the obstacle says that; or, for `None`, it doesn't endanger it
abbrev pub ReportsEntry : Topology → Guarantee → ℕ → Text → ℕ → Entry → Option Obstacle → Type 0
ReportsEntry new g number q j e (Some o) = Endangers new g q e.message × (o ≡ Breaks q e.message.first_key number)
ReportsEntry new g number q j e None = Endangers new g q e.message → ⊥

-- of the queue's entries, the first that the guarantee endangers is reported; `None` if there is none
abbrev pub ReportsEntries : Topology → Guarantee → ℕ → (ℕ → List Entry) → ℕ → Text → Option Obstacle → Type 0
ReportsEntries new g number entries p q o = ReportsFirst (ReportsEntry new g number q) (entries p) o

-- the first entry that the guarantee endangers is reported, in the order of the queues `names` and of their entries; `None` if there is none
abbrev pub ReportsQueues : Topology → List Text → (ℕ → List Entry) → ℕ → Guarantee → Option Obstacle → Type 0
ReportsQueues new names entries i g o = ReportsFirst (ReportsEntries new g (i + 1) entries) names o

-- the result is the first obstacle to the reload, or `None` if there is none
abbrev pub Judges : Topology → Config → Broker → Option Obstacle → Type 0
Judges old new b (Some o) = IsObstacle old new b o
Judges old new b None = HasNoObstacle old new b

-- the result is the first obstacle to the reload, or `None` if there is none, for each broker with these entries and consumers, whoever may log in
abbrev pub JudgesReload : Topology → (ℕ → List Entry) → (ℕ → Bool) → Topology → List Guarantee → Option Obstacle → Type 0
JudgesReload old entries consumed new gs reported =
    (b : Broker) (users : List User) → ShowsQueues old entries consumed b → Judges old (record { topology = new; guarantees = gs; users = users }) b reported
