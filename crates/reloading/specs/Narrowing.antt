-- The first guarantee about which anything is reported, narrowed message by message (own).
use Rattle.std.specs.Prelude.{◌≡◌, ◌<◌, ◌≤◌, ◌+◌, ℕ, List, Option, Some, None, slice_get}
use Rattle.model.specs.Words.{Text}
use Rattle.model.specs.Topology.{Topology}
use Rattle.model.specs.Guarantee.{Guarantee}
use Rattle.model.specs.Message.{Message}
use Rattle.model.specs.Reloading.{Endangers}
use Rattle.model.specs.declared.messages.Entry.{Entry}
use Rattle.model.specs.declared.obstacles.Obstacle.{Obstacle}
use Rattle.model.specs.declared.obstacles.Obstacle.TheVariants.{Breaks}
use Rattle.reloading.specs.declared.danger.Danger.{Danger}
use Rattle.reloading.specs.First.{ReportsNoneBelow}
use Rattle.reloading.specs.Obstacles.{ReportsEntries, ReportsQueues}

-- the index of the guarantee of the danger found, or `count` if none was found
abbrev pub bound_of : Option Danger → ℕ → ℕ
bound_of (Some d) count = d.guarantee
bound_of None count = count

-- the first danger, if there is one, or else the second, which was found before
abbrev pub joined : Option Danger → Option Danger → Option Danger
joined (Some d) found = Some d
joined None found = found

-- a danger was found, and its guarantee is at or before index `least`
abbrev pub EndsAt : Option Danger → ℕ → Type 0
EndsAt (Some d) least = d.guarantee ≤ least
EndsAt None least = ⊥

-- the obstacle of the danger found, if any
abbrev pub obstacle_of : Option Danger → Option Obstacle
obstacle_of (Some d) = Some d.obstacle
obstacle_of None = None

-- The obstacle of `d` is reported about its guarantee, which is before index `bound`; nothing is reported about the guarantees before that one.
pub record IsFound (Reports : ℕ → Guarantee → Option Obstacle → Type 0) (gs : List Guarantee) (bound : ℕ) (d : Danger) : Type 0 where
  pub within : d.guarantee < bound
  pub guarantee : Guarantee
  pub there : slice_get gs d.guarantee ≡ Some guarantee
  pub reports : Reports d.guarantee guarantee (Some d.obstacle)
  pub none_before : ReportsNoneBelow Reports gs d.guarantee

-- `Some d`: of the guarantees before index `bound`, the first about which `Reports` reports an obstacle, with that obstacle; `None`: it reports none
abbrev pub ReportsBelow : (ℕ → Guarantee → Option Obstacle → Type 0) → List Guarantee → ℕ → Option Danger → Type 0
ReportsBelow Reports gs bound (Some d) = IsFound Reports gs bound d
ReportsBelow Reports gs bound None = ReportsNoneBelow Reports gs bound

-- the guarantee `g`, number `i + 1`, endangers the message `m` in the queue `q`, and the obstacle says that; or, for `None`, it doesn't endanger it
abbrev pub ReportsMessage : Topology → Text → Message → ℕ → Guarantee → Option Obstacle → Type 0
ReportsMessage t q m i g (Some o) = Endangers t g q m × (o ≡ Breaks q m.first_key (i + 1))
ReportsMessage t q m i g None = Endangers t g q m → ⊥

-- the first message that the guarantee endangers is reported, of the queue at index `p`
abbrev pub EntriesReport : Topology → (ℕ → List Entry) → ℕ → Text → ℕ → Guarantee → Option Obstacle → Type 0
EntriesReport t entries p q i g o = ReportsEntries t g (i + 1) entries p q o

-- of the messages in all queues, the first that the guarantee endangers is reported, if there is one
abbrev pub QueuesReport : Topology → List Text → (ℕ → List Entry) → ℕ → Guarantee → Option Obstacle → Type 0
QueuesReport t names entries i g o = ReportsQueues t names entries i g o
