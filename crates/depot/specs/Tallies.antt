-- What queues will hold once the dead letters of a rejection have come to them.
use Rattle.std.specs.Prelude.{◌≡◌, ℕ, ◌||◌, List, [], ◌∷◌, ◌++◌, length, Bool, true, if◌then◌else◌, Option, Some, None, is_some, nat_eq}
use Rattle.std.specs.Prelude.{slice_get, slice_index_or, slice_set}
use Rattle.std.specs.Map.{lookup}
use Rattle.model.specs.Message.{Message}
use Rattle.model.specs.Broker.{ready_bytes}
use Rattle.model.specs.declared.messages.Entry.{Entry}
use Rattle.model.specs.declared.topologies.DeclaredQueue.{DeclaredQueue}
use Rattle.queue.specs.Line.{ready_count}
use Rattle.depot.specs.Turns.{is_full_at, arriving}
use Rattle.depot.specs.declared.arrivals.Arrival.{Arrival}
use Rattle.depot.specs.declared.tallies.Tally.{Tally}

-- whether the queue has a limit
abbrev pub is_limited : DeclaredQueue → Bool
is_limited q = is_some q.limit || is_some q.byte_limit

-- the number of ready entries, and the bytes of their bodies
abbrev pub tally_of : List Entry → Tally
tally_of entries = record { ready = ready_count entries; bytes = ready_bytes entries }

-- the tally that is kept for the queue at index `place`, or that of its entries
abbrev pub tally_at : List (List Entry) → List (ℕ × Tally) → ℕ → Tally
tally_at old tallies place = elim (lookup (nat_eq place) tallies) [ Some t ↦ t | None ↦ tally_of (slice_index_or old place []) ]

-- There is a list of entries for each queue, and the tally of each queue with a limit is that of its entries.
pub record AreTallied (queues : List DeclaredQueue) (old : List (List Entry)) (tallies : List (ℕ × Tally)) (entries : List (List Entry)) : Type 0 where
  pub len : length entries ≡ length queues
  pub tallied : (place : ℕ) (q : DeclaredQueue) → slice_get queues place ≡ Some q → is_limited q ≡ true
      → tally_at old tallies place ≡ tally_of (slice_index_or entries place [])

-- the dead letter that enters the queue at index `place`, if any
abbrev pub arrivals_at : ℕ → Option Message → List Arrival
arrivals_at place None = []
arrivals_at place (Some m) = record { place = place; message = m } ∷ []

-- the message that enters a queue that is full or not
abbrev pub taken_if : Bool → Message → Option Message
taken_if full m = if full then None else Some m

-- If the queues `entries` are tallied, this is whether the queue at index `place` refuses a body of `size` bytes, and they are tallied after that.
pub record DecidesTurn (queues : List DeclaredQueue) (old : List (List Entry)) (tallies tallies' : List (ℕ × Tally)) (place size : ℕ) (full : Bool)
    (entries : List (List Entry)) : Type 0 where
  pub reported : AreTallied queues old tallies entries → full ≡ is_full_at queues entries place size
  pub tallied : AreTallied queues old tallies entries → (m : Message) → length m.content.body ≡ size
      → AreTallied queues old tallies' (slice_set entries place (slice_index_or entries place [] ++ arriving (taken_if full m)))

-- `DecidesTurn` for each list of entries that the queues may have
abbrev pub CountsTurn : List DeclaredQueue → List (List Entry) → List (ℕ × Tally) → List (ℕ × Tally) → ℕ → ℕ → Bool → Type 0
CountsTurn queues old tallies tallies' place size full = (entries : List (List Entry)) → DecidesTurn queues old tallies tallies' place size full entries
