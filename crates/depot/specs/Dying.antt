-- Dead-lettering queue by queue, by the queues' indices.
use Rattle.std.specs.Prelude.{◌≡◌, ◌<◌, ℕ, List, [], ◌∷◌, ◌++◌, length, map, All, true, filter, find, not, Option, Some, None, slice_index_or, slice_set}
use Rattle.model.specs.Words.{Text}
use Rattle.model.specs.Topology.{Topology}
use Rattle.model.specs.Routing.{key_after}
use Rattle.model.specs.Message.{Message}
use Rattle.model.specs.Entries.{is_held_as}
use Rattle.model.specs.Deaths.{dead_letter}
use Rattle.model.specs.Deliveries.{left_note}
use Rattle.model.specs.declared.contents.Content.{Content}
use Rattle.model.specs.declared.messages.Entry.{Entry}
use Rattle.model.specs.declared.topologies.DeclaredQueue.{DeclaredQueue}
use Rattle.model.specs.declared.notes.Cause.TheVariants.{Acked, Rejected}
use Rattle.model.specs.declared.notes.Note.{Note}
use Rattle.model.specs.declared.notes.Note.TheVariants.{Left}
use Rattle.model.specs.declared.notes.Way.TheVariants as way
use Rattle.exchange_graph.specs.Marks.{queue_name}
use Rattle.depot.specs.Marked.{IsMarked}
use Rattle.model.specs.declared.deliveries.ChannelId.{ChannelId}
use Rattle.model.specs.declared.deliveries.Delivery.{Delivery}
use Rattle.notes.specs.Kept.{Noted}
use Rattle.depot.specs.declared.turns.PlannedTurn.{PlannedTurn}
use Rattle.model.specs.Placed.{holder_of_delivery, is_waiting}
use Rattle.depot.specs.Turns.{TurnOutcome, outcomes, turn_at, arriving, all_entered, notes_of_outcomes, IsPlan}
use Rattle.depot.specs.Settled.{left_at}
use Rattle.depot.specs.Tallies.{AreTallied, arrivals_at}
use Rattle.depot.specs.declared.arrivals.Arrival.{Arrival}
use Rattle.depot.specs.declared.plans.Letter.{Letter}
use Rattle.depot.specs.declared.plans.Plan.{Plan}
use Rattle.depot.specs.declared.tallies.Tally.{Tally}
use Rattle.model.specs.declared.messages.Holder.{Holder}

-- ---- planning

-- A message that dies in the queue at index `place`: who held it, the note that it leaves, and the turns of its dead letter.
pub record Death : Type 0 where
  pub place : ℕ
  pub holder : Holder
  pub note : Note
  pub turns : List PlannedTurn

-- The turns of the dead letter of a message that dies in queue `q`, which is sent to this exchange.
pub record AreDeadLetters (t : Topology) (q : DeclaredQueue) (m : Message) (turns : List PlannedTurn) (exchange : Text) : Type 0 where
  pub content : Content
  pub marked : IsMarked q.name m.exchange m.content content
  pub plan : IsPlan t exchange (key_after q.dead_letter_key m.key) (dead_letter m exchange (key_after q.dead_letter_key m.key) content) turns

-- `turns` are those of the dead letter of `m`, which dies in queue `q`; none if there is no dead-letter exchange
abbrev pub MayHaveLetters : Topology → DeclaredQueue → Message → List PlannedTurn → Option Text → Type 0
MayHaveLetters t q m turns None = turns ≡ []
MayHaveLetters t q m turns (Some exchange) = AreDeadLetters t q m turns exchange

-- `turns` are those of the dead letter of `m`, which dies in the queue at index `place`
abbrev pub LettersAt : Topology → ℕ → Message → List PlannedTurn → Type 0
LettersAt t place m turns = (q : DeclaredQueue) → q ≡ slice_index_or t.queues place q → MayHaveLetters t q m turns q.dead_letter_exchange

-- `d` is the planned death of the entry `e`, which was given out as delivery `g` of channel `h` of connection `c`.
pub record IsDeathOf (t : Topology) (c h : ℕ) (g : Delivery) (e : Entry) (d : Death) : Type 0 where
  pub place : d.place ≡ g.queue
  pub holder : d.holder ≡ holder_of_delivery c h g
  pub note : d.note ≡ Left e.message.number (queue_name t g.queue) Rejected
  pub letters : LettersAt t g.queue e.message d.turns

-- `deaths` has the planned death of the entry, if there is one, and nothing else
abbrev pub Plans : Topology → ℕ → ℕ → Delivery → Option Entry → List Death → Type 0
Plans t c h g None deaths = deaths ≡ []
Plans t c h g (Some e) deaths = (d : Death) × (deaths ≡ d ∷ []) × IsDeathOf t c h g e d

-- the message of delivery `g`, if it is still held
abbrev pub given_at : ℕ → ℕ → List (List Entry) → Delivery → Option Entry
given_at c h entries g = find (is_held_as (holder_of_delivery c h g)) (slice_index_or entries g.queue [])

-- the note that the message of delivery `g`, if it is still held, leaves when it is acknowledged
abbrev pub acked_note : Topology → ChannelId → List (List Entry) → Delivery → List Note
acked_note t id entries g = left_note Acked (queue_name t g.queue) (given_at id.connection id.number entries g)

-- `deaths` has the planned death of the message of delivery `g`, if it is still held, and nothing else
abbrev pub PlansAt : Topology → ℕ → ℕ → List (List Entry) → Delivery → List Death → Type 0
PlansAt t c h entries g deaths = Plans t c h g (given_at c h entries g) deaths

-- `deaths` are the planned deaths of the messages of the deliveries `gs`, as far as the messages are still held
abbrev pub ArePlanned : Topology → ℕ → ℕ → List (List Entry) → List Delivery → List Death → Type 0
ArePlanned t c h entries [] deaths = deaths ≡ []
ArePlanned t c h entries (g ∷ gs) deaths =
    (first : List Death) × (rest : List Death) × Plans t c h g (given_at c h entries g) first × (deaths ≡ first ++ rest) × ArePlanned t c h entries gs rest

-- ---- performing

-- the queues without the message that dies
abbrev pub without : Death → List (List Entry) → List (List Entry)
without d entries = slice_set entries d.place (filter (λ (e : Entry). not (is_held_as d.holder e)) (slice_index_or entries d.place []))

-- the outcome of the dead letter of `d` at each queue that it is routed to
abbrev pub outcomes_of : List DeclaredQueue → Death → List (List Entry) → List TurnOutcome
outcomes_of queues d entries = outcomes way.Dead queues d.turns (without d entries)

-- the queues after a death
abbrev pub died : List DeclaredQueue → Death → List (List Entry) → List (List Entry)
died queues d entries = all_entered (outcomes_of queues d entries) (without d entries)

-- the notes of a death
abbrev pub death_notes : List DeclaredQueue → Death → List (List Entry) → List Note
death_notes queues d entries = d.note ∷ notes_of_outcomes (outcomes_of queues d entries)

-- the queues after the given deaths, one after another
abbrev pub died_all : List DeclaredQueue → List Death → List (List Entry) → List (List Entry)
died_all queues [] entries = entries
died_all queues (d ∷ ds) entries = died_all queues ds (died queues d entries)

-- the notes of the given deaths, one after another
abbrev pub all_notes : List DeclaredQueue → List Death → List (List Entry) → List Note
all_notes queues [] entries = []
all_notes queues (d ∷ ds) entries = death_notes queues d entries ++ all_notes queues ds (died queues d entries)

-- All messages of the deliveries `gone` that were still held have died.
pub record Rejects (t : Topology) (id : ChannelId) (gone : List Delivery) (old new : List (List Entry)) (before after : List Note) : Type 0 where
  pub deaths : List Death
  pub planned : ArePlanned t id.connection id.number old gone deaths
  pub entries : new ≡ died_all t.queues deaths old
  pub notes : after ≡ before ++ all_notes t.queues deaths old

-- ---- foreseeing

-- the dead letters that the given outcomes bring to queues
abbrev pub arrivals_in : List TurnOutcome → List Arrival
arrivals_in [] = []
arrivals_in (o ∷ os) = arrivals_at o.place o.message ++ arrivals_in os

-- the dead letters that the given deaths bring to queues
abbrev pub all_arrivals : List DeclaredQueue → List Death → List (List Entry) → List Arrival
all_arrivals queues [] entries = []
all_arrivals queues (d ∷ ds) entries = arrivals_in (outcomes_of queues d entries) ++ all_arrivals queues ds (died queues d entries)

-- the index of each dead letter's queue
abbrev pub arriving_at : List Arrival → List ℕ
arriving_at as' = map (λ (a : Arrival). a.place) as'

-- each dead letter enters a queue with an index below `count`
abbrev pub EnterBelow : ℕ → List Arrival → Type 0
EnterBelow count as' = All (λ (i : ℕ). i < count) (arriving_at as')

-- the queues with the given dead letters behind their entries
abbrev pub arrived : List Arrival → List (List Entry) → List (List Entry)
arrived [] entries = entries
arrived (a ∷ as') entries = arrived as' (slice_set entries a.place (slice_index_or entries a.place [] ++ arriving (Some a.message)))

-- the queues without the messages of the given deliveries
abbrev pub all_left : ℕ → ℕ → List Delivery → List (List Entry) → List (List Entry)
all_left c h [] entries = entries
all_left c h (g ∷ gs) entries = all_left c h gs (left_at c h entries g)

-- A rejection as far as it is planned: the tallies, the dead letters that enter queues, and the notes.
pub record Planned : Type 0 where
  pub tallies : List (ℕ × Tally)
  pub arrivals : List Arrival
  pub notes : List Note

-- what a plan has, with these notes
abbrev pub so_far : Plan → Noted → Planned
so_far plan notes = record { tallies = plan.tallies.entries; arrivals = plan.arrivals.items; notes = notes.items }

-- The outcomes `os` are planned from `from` on: the queues after them are tallied, and their dead letters and notes are appended.
pub record ForeseesOutcomes (queues : List DeclaredQueue) (old : List (List Entry)) (os : List TurnOutcome) (entries : List (List Entry))
    (from to : Planned) : Type 0 where
  pub tallied : AreTallied queues old to.tallies (all_entered os entries)
  pub arrivals : to.arrivals ≡ from.arrivals ++ arrivals_in os
  pub notes : to.notes ≡ from.notes ++ notes_of_outcomes os

-- `turns` are planned from `from` on, one after another, whatever entries are tallied there
abbrev pub ForeseesTurns : List DeclaredQueue → List (List Entry) → List PlannedTurn → Planned → Planned → Type 0
ForeseesTurns queues old turns from to = (entries : List (List Entry)) → AreTallied queues old from.tallies entries
    → ForeseesOutcomes queues old (outcomes way.Dead queues turns entries) entries from to

-- the dead letter `m` is planned from `from` on at the queues with the indices `places`
abbrev pub Foresees : List DeclaredQueue → List (List Entry) → Message → List ℕ → Planned → Planned → Type 0
Foresees queues old m places from to = ForeseesTurns queues old (map (turn_at queues m) places) from to

-- The deaths are planned from `from` on, one after another: the queues after them are tallied, and their dead letters and notes are appended.
pub record ForeseesDeaths (queues : List DeclaredQueue) (old : List (List Entry)) (deaths : List Death) (entries : List (List Entry))
    (from to : Planned) : Type 0 where
  pub tallied : AreTallied queues old to.tallies (died_all queues deaths entries)
  pub arrivals : to.arrivals ≡ from.arrivals ++ all_arrivals queues deaths entries
  pub notes : to.notes ≡ from.notes ++ all_notes queues deaths entries

-- a dead letter with its route, or none, of a message that dies in the queue at this index
abbrev pub IsLetterAt : Topology → ℕ → Message → Option Letter → Type 0
IsLetterAt t place m None = LettersAt t place m []
IsLetterAt t place m (Some l) = LettersAt t place m (map (turn_at t.queues l.message) l.route.value.targets.items)
    × All (λ (i : ℕ). i < length t.queues) l.route.value.targets.items

-- the dead letter of `m`, which dies in the queue at index `place`, is planned from `from` on, whatever entries are tallied there
abbrev pub ForeseesLetters : Topology → ℕ → Message → List (List Entry) → Planned → Planned → Type 0
ForeseesLetters t place m old from to = (entries : List (List Entry)) → AreTallied t.queues old from.tallies entries
    → (turns : List PlannedTurn) × LettersAt t place m turns × ForeseesOutcomes t.queues old (outcomes way.Dead t.queues turns entries) entries from to

-- the death of the message of delivery `g` of channel `id` is planned from `from` on, whatever entries are tallied there
abbrev pub ForeseesGiven : Topology → ChannelId → Delivery → List (List Entry) → Planned → Planned → Type 0
ForeseesGiven t id g old from to = (entries : List (List Entry)) → AreTallied t.queues old from.tallies entries
    → (deaths : List Death) × PlansAt t id.connection id.number old g deaths × ForeseesDeaths t.queues old deaths entries from to

-- `ForeseesGiven`, if the delivery is unacknowledged
abbrev pub ForeseesWaiting : Topology → ChannelId → Delivery → List (List Entry) → Planned → Planned → Type 0
ForeseesWaiting t id g old from to = is_waiting g ≡ true → ForeseesGiven t id g old from to

-- `came` are the dead letters that the messages of the deliveries `gone` bring to queues, and their notes are appended.
pub record IsForeseen (t : Topology) (id : ChannelId) (gone : List Delivery) (old : List (List Entry)) (came : List Arrival)
    (before after : List Note) : Type 0 where
  pub deaths : List Death
  pub planned : ArePlanned t id.connection id.number old gone deaths
  pub arrivals : came ≡ all_arrivals t.queues deaths old
  pub notes : after ≡ before ++ all_notes t.queues deaths old

-- the second list is the first with notes appended
abbrev pub Extends : List Note → List Note → Type 0
Extends notes notes' = (more : List Note) × (notes' ≡ notes ++ more)
