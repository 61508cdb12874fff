-- Moving the queues of one topology to those of another, by index and by name (own).
use Rattle.std.specs.Prelude.{◌≡◌, ◌<◌, ◌≤◌, ℕ, List, [], ◌∷◌, length, map, slice_index_or, slice_set}
use Rattle.model.specs.Words.{Text}
use Rattle.model.specs.Topology.{IsIn, queue_names}
use Rattle.model.specs.Reloading.{survived_now}
use Rattle.model.specs.declared.messages.Entry.{Entry}
use Rattle.depot.specs.Store.{Store, entries_named}

-- `place` is the index of the queue in the new topology; or there is no such queue, and it is past the end.
pub data IsMoved (new : List Text) (q : Text) (place : ℕ) : Type 0 where
  stays : place < length new → slice_index_or new place [] ≡ q → IsMoved new q place
  goes : (IsIn q new → ⊥) → length new ≤ place → IsMoved new q place

-- The table has the new index of each old queue.
pub record AreMoved (old new : List Text) (places : List ℕ) : Type 0 where
  pub len : length places ≡ length old
  pub each : (k : ℕ) → k < length old → IsMoved new (slice_index_or old k []) (slice_index_or places k 0)

-- no queue that the new topology lacks has an entry
abbrev pub GoneAreEmpty : Store → List Text → Type 0
GoneAreEmpty old new = (q : Text) → IsIn q (queue_names old.topology.queues) → (IsIn q new → ⊥) → entries_named old q ≡ []

-- each old queue's entries are at its new index, each marked as one that the reload found there; an index past the end drops them
abbrev pub taken : List ℕ → List (List Entry) → List (List Entry) → List (List Entry)
taken [] olds news = news
taken (p ∷ ps) [] news = news
taken (p ∷ ps) (es ∷ olds) news = taken ps olds (slice_set news p (map survived_now es))
