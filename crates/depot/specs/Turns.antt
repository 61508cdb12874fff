-- Offering a message to its routed queues one after another, by the queues' indices in the definitions.
use Rattle.std.specs.Prelude.{◌≡◌, ◌<◌, ◌≤◌, ◌+◌, ◌==◌, ℕ, Bool, true, false, cond, if◌then◌else◌, Option, Some, None}
use Rattle.std.specs.Prelude.{List, [], ◌∷◌, ◌++◌, length, map, slice_get, slice_index_or, slice_set}
use Rattle.std.specs.List.{list_any}
use Rattle.model.specs.Words.{Text}
use Rattle.model.specs.Topology.{Topology, queue_names}
use Rattle.model.specs.Broker.{ready_bytes, refuses}
use Rattle.model.specs.Message.{Message}
use Rattle.model.specs.declared.messages.Entry.{Entry}
use Rattle.model.specs.declared.messages.Mark.TheVariants.{Ready}
use Rattle.model.specs.declared.topologies.DeclaredQueue.{DeclaredQueue}
use Rattle.model.specs.declared.methods.Publish.{Publish}
use Rattle.model.specs.declared.notes.Note.{Note}
use Rattle.model.specs.declared.notes.Note.TheVariants.{Entered, Refused}
use Rattle.model.specs.declared.notes.Way.{Way}
use Rattle.model.specs.declared.notes.Way.TheVariants as way
use Rattle.queue.specs.Line.{Line, ready_count}
use Rattle.exchange_graph.specs.Targets.{AreTargets}
use Rattle.notes.specs.Kept.{Noted}
use Rattle.depot.specs.Store.{entries_of}
use Rattle.depot.specs.declared.turns.PlannedTurn.{PlannedTurn}
use Rattle.depot.specs.declared.depots.Routed.{Routed}

-- ---- one turn

-- the plan by which the queue at index `place` is offered the message `m`
abbrev pub turn_at : List DeclaredQueue → Message → ℕ → PlannedTurn
turn_at queues m place = record { place = place; name = slice_index_or (queue_names queues) place []; message = m }

-- the outcome of a turn: the queue takes the message, or refuses it (`None`), and the note says which
pub record TurnOutcome : Type 0 where
  pub place : ℕ
  pub message : Option Message
  pub note : Note

-- the outcome at a queue that is full or not
abbrev pub outcome_of : Way → Text → Bool → Message → ℕ → TurnOutcome
outcome_of how name full m place =
    if full then record { place = place; message = None; note = Refused m.number name }
    else record { place = place; message = Some m; note = Entered m.number name how }

-- the outcome of the turn `t` at the queue `q`, which holds `entries`
abbrev pub outcome_at : Way → DeclaredQueue → List Entry → PlannedTurn → TurnOutcome
outcome_at how q entries t =
    outcome_of how t.name (refuses (Some q) (ready_count entries) (ready_bytes entries) (length t.message.content.body)) t.message t.place

-- the queue at index `place`, with the entries at this index of `entries`, refuses a message with a body of `size` bytes
abbrev pub is_full_at : List DeclaredQueue → List (List Entry) → ℕ → ℕ → Bool
is_full_at queues entries place size =
    refuses (slice_get queues place) (ready_count (slice_index_or entries place [])) (ready_bytes (slice_index_or entries place [])) size

-- the outcome of a turn at its queue, with these entries
abbrev pub outcome : Way → List DeclaredQueue → List (List Entry) → PlannedTurn → TurnOutcome
outcome how queues entries t = outcome_of how t.name (is_full_at queues entries t.place (length t.message.content.body)) t.message t.place

-- the queue refuses the message
abbrev pub is_refusal : TurnOutcome → Bool
is_refusal o = elim o.message [ None ↦ true | Some m ↦ false ]

-- the entry that is appended to the queue, if any
abbrev pub arriving : Option Message → List Entry
arriving None = []
arriving (Some m) = record { message = m; mark = Ready } ∷ []

-- the queues after a turn
abbrev pub entered_one : TurnOutcome → List (List Entry) → List (List Entry)
entered_one o entries = slice_set entries o.place (slice_index_or entries o.place [] ++ arriving o.message)

-- ---- turns

-- the index of each turn's queue
abbrev pub places : List PlannedTurn → List ℕ
places turns = map (λ (t : PlannedTurn). t.place) turns

-- the outcomes of turns taken one after another, each judged by the queue as the earlier turns left it
abbrev pub outcomes : Way → List DeclaredQueue → List PlannedTurn → List (List Entry) → List TurnOutcome
outcomes how queues [] entries = []
outcomes how queues (t ∷ ts) entries = outcome how queues entries t ∷ outcomes how queues ts (entered_one (outcome how queues entries t) entries)

-- the note of each outcome
abbrev pub notes_of_outcomes : List TurnOutcome → List Note
notes_of_outcomes os = map (λ (o : TurnOutcome). o.note) os

-- the queues after all these outcomes
abbrev pub all_entered : List TurnOutcome → List (List Entry) → List (List Entry)
all_entered [] entries = entries
all_entered (o ∷ os) entries = all_entered os (entered_one o entries)

-- whether there is no turn
abbrev pub no_turns : List PlannedTurn → Bool
no_turns [] = true
no_turns (t ∷ ts) = false

-- The turns of a message that is sent to this exchange with this key: one at each queue that it is routed to.
pub record IsPlan (t : Topology) (exchange key : Text) (m : Message) (turns : List PlannedTurn) : Type 0 where
  pub targets : List ℕ
  pub routed : AreTargets t exchange key targets
  pub turned : turns ≡ map (turn_at t.queues m) targets

-- ---- capacity

-- a queue that doesn't exist
abbrev pub no_line : Line
no_line = record { entries = []; room = 0 }

-- for how many more messages the queue at this index has capacity
abbrev pub room_at : List Line → ℕ → ℕ
room_at lines place = (slice_index_or lines place no_line).room

-- how often `place` occurs in the list
abbrev pub times : ℕ → List ℕ → ℕ
times place [] = 0
times place (p ∷ ps) = cond (place == p) 1 0 + times place ps

-- each of these queues has capacity for `count` messages
abbrev pub LinesHaveRoom : List Line → List ℕ → ℕ → Type 0
LinesHaveRoom lines targets count = (k : ℕ) → k < length targets → count ≤ room_at lines (slice_index_or targets k 0)

-- each queue has room for as many messages as its index occurs in `targets`
abbrev pub IsRoomy : List Line → List ℕ → Type 0
IsRoomy lines targets = (place : ℕ) → times place targets ≤ room_at lines place

-- no queue has more room than before
abbrev pub GainsNone : List Line → List Line → Type 0
GainsNone old new = (place : ℕ) → room_at new place ≤ room_at old place

-- each queue for which `leading` is not 0 has no room
abbrev pub AreEmptied : List Line → (ℕ → ℕ) → Type 0
AreEmptied lines leading = (place : ℕ) → 0 < leading place → room_at lines place ≡ 0

-- each queue has room for exactly `more` messages more than before
abbrev pub MakesRoom : List Line → List Line → (ℕ → ℕ) → Type 0
MakesRoom old new more = (place : ℕ) → room_at new place ≡ room_at old place + more place

-- each queue has room for at most `more` messages more than before
abbrev pub MakesAtMost : List Line → List Line → (ℕ → ℕ) → Type 0
MakesAtMost old new more = (place : ℕ) → room_at new place ≤ room_at old place + more place

-- ---- a publish

-- The turns of a publish were taken: the queues, the notes and the result are those of the turns' outcomes.
pub record Enters (t : Topology) (old new : List (List Entry)) (p : Publish) (m : Message)
    (first : Note) (before after : List Note) (routed : Routed) : Type 0 where
  pub turns : List PlannedTurn
  pub plan : IsPlan t p.exchange p.routing_key m turns
  pub entries : new ≡ all_entered (outcomes way.Publish t.queues turns old) old
  pub notes : after ≡ before ++ first ∷ notes_of_outcomes (outcomes way.Publish t.queues turns old)
  pub none : routed.is_none ≡ no_turns turns
  pub full : routed.is_some_full ≡ list_any is_refusal (outcomes way.Publish t.queues turns old)

-- a publish, if it is routed to the queues with the indices `targets`, enters these queues as `Enters` says
abbrev pub EntersAt : Topology → List ℕ → List Line → List Line → Message → Note → Noted → Noted → Routed → Type 0
EntersAt t targets old new m first before after routed = (p : Publish) → AreTargets t p.exchange p.routing_key targets
    → Enters t (entries_of old) (entries_of new) p m first before.items after.items routed
