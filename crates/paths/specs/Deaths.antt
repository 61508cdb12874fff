-- What dead letters reach, queue by queue (RabbitMQ, "Dead Letter Exchanges": a queue may give its dead letters a key of its own).
use Rattle.std.specs.Prelude.{◌≡◌, ℕ, List, Option, Some, None, length, slice_get}
use Rattle.model.specs.Words.{Text}
use Rattle.model.specs.Topology.{Topology}
use Rattle.paths.specs.declared.visits.Visit.{Visit}
use Rattle.paths.specs.Onward.{Refixes}
use Rattle.paths.specs.Exploring.{AreExplored}

-- `visits` is exactly what dead letters of the queue at index `at` reach under the key that this queue gives them.
pub record IsDeathOf (t : Topology) (at : ℕ) (visits : List Visit) : Type 0 where
  pub exchange : Text
  pub key : Text
  pub fixes : Refixes t at exchange key
  pub explored : AreExplored t exchange key visits

-- what dead letters of the queue at index `at` reach, or `None` if the queue has no dead-letter exchange or no dead-letter key
abbrev pub IsFrontAt : Topology → ℕ → Option (List Visit) → Type 0
IsFrontAt t at (Some visits) = IsDeathOf t at visits
IsFrontAt t at None = (exchange key : Text) → Refixes t at exchange key → ⊥

-- `fronts` has an entry for each of the first `count` queues: what its dead letters reach (`IsFrontAt`).
pub record AreFronts (t : Topology) (count : ℕ) (fronts : List (Option (List Visit))) : Type 0 where
  pub size : length fronts ≡ count
  pub each : (at : ℕ) (front : Option (List Visit)) → slice_get fronts at ≡ Some front → IsFrontAt t at front

-- `fronts` has an entry for each queue: what its dead letters reach
abbrev pub AreDeaths : Topology → List (Option (List Visit)) → Type 0
AreDeaths t fronts = AreFronts t (length t.queues) fronts
