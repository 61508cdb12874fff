-- Guarantees that forbid a queue, and what leads to it (own).
use Rattle.std.specs.Prelude.{◌≡◌, ◌<◌, ℕ, List, Bool, Option, Some, None, length, slice_get}
use Rattle.model.specs.Words.{Text}
use Rattle.model.specs.Topology.{Topology}
use Rattle.model.specs.Guarantee.{Guarantee}
use Rattle.model.specs.Message.{Message}
use Rattle.model.specs.Reloading.{Endangers}
use Rattle.model.specs.declared.topologies.Mode.TheVariants.{Never}
use Rattle.exchange_graph.specs.Dying.{EndsHere, IsDeadLetter}
use Rattle.paths.specs.Exploring.{AreExplored}
use Rattle.paths.specs.Leading.{AreLeading}
use Rattle.paths.specs.declared.visits.Visit.{Visit}
use Rattle.reloading.specs.Obstacles.{EndangersNone}

-- the marks of what leads to the queue that the guarantee forbids (`AreLeading`), or `None` if it forbids none
abbrev pub IsForbidding : Topology → Guarantee → Option (List Bool) → Type 0
IsForbidding t g (Some marks) = (g.mode ≡ Never) × AreLeading t g.queue marks
IsForbidding t g None = g.mode ≡ Never → ⊥

-- `found` has for each of the first `count` guarantees what leads to the queue that it forbids, or `None` if it forbids none (`IsForbidding`).
pub record AreForbidding (t : Topology) (gs : List Guarantee) (count : ℕ) (found : List (Option (List Bool))) : Type 0 where
  pub size : length found ≡ count
  pub each : (i : ℕ) (g : Guarantee) (one : Option (List Bool)) → slice_get gs i ≡ Some g → slice_get found i ≡ Some one → IsForbidding t g one

-- none of the first `count` guarantees forbids a queue
abbrev pub NoneForbids : List Guarantee → ℕ → Type 0
NoneForbids gs count = (i : ℕ) (g : Guarantee) → i < count → slice_get gs i ≡ Some g → g.mode ≡ Never → ⊥

-- the guarantee endangers this message in no queue and under no topology
abbrev pub Spares : Guarantee → Message → Type 0
Spares g m = (t : Topology) (q : Text) → Endangers t g q m → ⊥

-- none of the first `bound` guarantees endangers this message, in any queue and under any topology (`Spares`)
abbrev pub NoneForbidsTo : List Guarantee → ℕ → Message → Type 0
NoneForbidsTo gs bound m = (i : ℕ) (g : Guarantee) → i < bound → slice_get gs i ≡ Some g → Spares g m

-- `visits` is what a message with this key reaches once it dies in the queue `q`.
pub record IsExploredFor (t : Topology) (q key : Text) (visits : List Visit) : Type 0 where
  pub exchange : Text
  pub onward : Text
  pub letter : IsDeadLetter t q key exchange onward
  pub explored : AreExplored t exchange onward visits

-- `visits` is what a message reaches once it dies in the queue `q`, whatever its key is
abbrev pub IsFixedFor : Topology → Text → List Visit → Type 0
IsFixedFor t q visits = (key : Text) → IsExploredFor t q key visits

-- the result is what a message with this key reaches once it dies in the queue `q`, or `None` if it goes nowhere
abbrev pub ReturnsLetter : Topology → Text → Text → Option (List Visit) → Type 0
ReturnsLetter t q key (Some visits) = IsExploredFor t q key visits
ReturnsLetter t q key None = EndsHere t q

-- none of the first `count` guarantees endangers a message of the queue `q`, whatever the message is
abbrev pub NoneMay : Topology → List Guarantee → ℕ → Text → Type 0
NoneMay t gs count q = (i : ℕ) (g : Guarantee) → i < count → slice_get gs i ≡ Some g → EndangersNone t g q

-- no guarantee before index `least` endangers a message of the queue `q`; with `None`, no guarantee before index `bound` does
abbrev pub ReturnsFirstMay : Topology → List Guarantee → ℕ → Text → Option ℕ → Type 0
ReturnsFirstMay t gs bound q (Some least) = NoneMay t gs least q
ReturnsFirstMay t gs bound q None = NoneMay t gs bound q

-- none of the first `bound` guarantees endangers the message `m` in the queue `q`
abbrev pub EndangersBelow : Topology → List Guarantee → ℕ → Text → Message → Type 0
EndangersBelow t gs bound q m = (i : ℕ) (g : Guarantee) → i < bound → slice_get gs i ≡ Some g → Endangers t g q m → ⊥

-- The guarantee at index `at`, which is before `bound`, is the first that endangers the message `m` in the queue `q`.
pub record IsLeast (t : Topology) (gs : List Guarantee) (bound : ℕ) (q : Text) (m : Message) (at : ℕ) : Type 0 where
  pub within : at < bound
  pub guarantee : Guarantee
  pub there : slice_get gs at ≡ Some guarantee
  pub endangers : Endangers t guarantee q m
  pub none_before : EndangersBelow t gs at q m

-- the result is the first guarantee before index `bound` that endangers the message, if one does
abbrev pub ReturnsLeast : Topology → List Guarantee → ℕ → Text → Message → Option ℕ → Type 0
ReturnsLeast t gs bound q m (Some at) = IsLeast t gs bound q m at
ReturnsLeast t gs bound q m None = EndangersBelow t gs bound q m
