-- What happens in order while the configuration in force may change: events, and the reloads between them (own). Start with `History`.
use Rattle.std.specs.Prelude.{◌≡◌, ℕ, List, [], ◌∷◌, ◌++◌, ◌⊎◌}
use Rattle.std.specs.List.{AllByRecursion}
use Rattle.model.specs.Broker.{Broker}
use Rattle.model.specs.Step.{Is}
use Rattle.model.specs.State.{Config, State, Step}
use Rattle.model.specs.Run.{Happening, Balances}
use Rattle.model.specs.Reloading.{IsObstacle, HasNoObstacle, with_all_survived}
use Rattle.model.specs.declared.obstacles.Obstacle.{Obstacle}
use Rattle.model.specs.declared.notes.Note.{Note}
use Rattle.model.specs.declared.notes.Note.TheVariants.{Reloaded, ReloadRefused}

-- One reload: the configuration in force before it, the one `offered`, the states before and after it, its notes, and the configuration in force after it.
pub record Reload : Type 0 where
  pub config : Config
  pub offered : Config
  pub before : State
  pub notes : List Note
  pub after : State
  pub in_force : Config

-- The reload was done, because there was no obstacle: what was offered is in force,
-- each entry is marked as one that was in a queue then, and all else is unchanged.
pub record IsDone (r : Reload) : Type 0 where
  pub nothing : HasNoObstacle r.config.topology r.offered r.before.broker
  pub noted : r.notes ≡ Reloaded ∷ []
  pub in_force : r.in_force ≡ r.offered
  pub broker : Is (with_all_survived r.before.broker) r.after.broker
  pub session : (c : ℕ) → r.after.session c ≡ r.before.session c

-- The reload was refused for the first obstacle, which is noted, and nothing is different.
pub record IsRefused (r : Reload) : Type 0 where
  pub obstacle : Obstacle
  pub stands : IsObstacle r.config.topology r.offered r.before.broker obstacle
  pub noted : r.notes ≡ ReloadRefused obstacle ∷ []
  pub in_force : r.in_force ≡ r.config
  pub after : r.after ≡ r.before

-- The reload was done or refused.
abbrev pub IsDecided : Reload → Type 0
IsDecided r = IsDone r ⊎ IsRefused r

-- An event, or a reload.
pub data Occurrence : Type 0 where
  Of_event : Happening → Occurrence
  Of_reload : Reload → Occurrence

-- The state after the occurrence.
abbrev pub state_after : Occurrence → State
state_after (Of_event h) = h.after
state_after (Of_reload r) = r.after

-- The notes of the occurrence.
abbrev pub noted_at : Occurrence → List Note
noted_at (Of_event h) = h.notes
noted_at (Of_reload r) = r.notes

-- From the state `old` with the configuration `f` in force, the occurrences may happen one after another, and leave the state `new` with `last` in force.
abbrev pub History : Config → State → List Occurrence → Config → State → Type 0
History f old [] last new = (last ≡ f) × (new ≡ old)
History f old (Of_event h ∷ os) last new = (h.config ≡ f) × (h.before ≡ old) × Step h.config h.before h.event h.sends h.notes h.after
    × History h.config h.after os last new
History f old (Of_reload r ∷ os) last new = (r.config ≡ f) × (r.before ≡ old) × IsDecided r × History r.in_force r.after os last new

-- The events among the occurrences, in order.
abbrev pub events_of : List Occurrence → List Happening
events_of [] = []
events_of (Of_event h ∷ os) = h ∷ events_of os
events_of (Of_reload r ∷ os) = events_of os

-- The reloads among the occurrences, in order.
abbrev pub reloads_of : List Occurrence → List Reload
reloads_of [] = []
reloads_of (Of_event h ∷ os) = reloads_of os
reloads_of (Of_reload r ∷ os) = r ∷ reloads_of os

-- Each reload among the occurrences `os` was refused.
abbrev pub NoneDone : List Occurrence → Type 0
NoneDone os = AllByRecursion IsRefused (reloads_of os)

-- The configuration in force after the occurrences, if `f` was before them: the one that the last reload left in force.
abbrev pub in_force_after : Config → List Occurrence → Config
in_force_after f [] = f
in_force_after f (Of_event h ∷ os) = in_force_after f os
in_force_after f (Of_reload r ∷ os) = in_force_after r.in_force os

-- The notes of all occurrences, in order.
abbrev pub notes_over : List Occurrence → List Note
notes_over [] = []
notes_over (o ∷ os) = noted_at o ++ notes_over os

-- The broker is unchanged, or changed only in that each entry is marked as one that was in a queue when a reload was done.
abbrev pub LeavesQueues : Broker → Broker → Type 0
LeavesQueues old new = Is (with_all_survived old) new ⊎ (new ≡ old)

-- From `old` to `new`: each occurrence begins where the one before it ended, at each event
-- every queue balances by the event's own notes, and a reload leaves each queue its messages.
abbrev pub StaysOver : Broker → List Occurrence → Broker → Type 0
StaysOver old [] new = new ≡ old
StaysOver old (Of_event h ∷ os) new = (h.before.broker ≡ old) × Balances h.before.broker h.notes h.after.broker × StaysOver h.after.broker os new
StaysOver old (Of_reload r ∷ os) new = (r.before.broker ≡ old) × LeavesQueues r.before.broker r.after.broker × StaysOver r.after.broker os new
