-- What waits for the connections to which a round has delivered, slot by slot (own).
use Rattle.std.specs.Prelude.{◌≡◌, ◌≤◌, ◌⊎◌, ℕ, List, Option, length, slice_index_or, slice_set, sum, None}
use Rattle.model.specs.Arrivals.{World}
use Rattle.serving.specs.Story.{At, grown, output_length}
use Rattle.serving.specs.declared.peers.Peer.{Peer}

-- no output is shorter than before
abbrev pub NoneShorter : World → World → Type 0
NoneShorter old new = (c : ℕ) → output_length old c ≤ output_length new c

-- the number of each slot is at most what waits for its connection, and 0 unless a delivery was made to it since `old`
abbrev pub AreGrown : World → World → List (Option Peer) → List ℕ → Type 0
AreGrown old new ps waiting = (i : ℕ) → slice_index_or waiting i 0 ≤ grown old new (slice_index_or ps i None)

-- numbers that are right for deliveries since an earlier world are right after these, too
abbrev pub KeepsGrown : List (Option Peer) → World → List ℕ → World → List ℕ → Type 0
KeepsGrown ps old was new is = (start : World) → NoneShorter start old → AreGrown start old ps was → AreGrown start new ps is

-- the number of the slot that holds connection `c` is the length of its output now, or all numbers are as before
abbrev pub Recounts : World → List (Option Peer) → ℕ → List ℕ → List ℕ → Type 0
Recounts w ps c old new = (new ≡ old) ⊎ ((i : ℕ) × (p : Peer) × At ps i p × (p.connection ≡ c) × (new ≡ slice_set old i (output_length w c)))

-- What is kept of the numbers of all slots: at least `total` waits, and nothing for a slot at or behind `end`.
pub record IsLoad (waiting : List ℕ) (total : ℕ) (end : ℕ) : Type 0 where
  pub least : total ≤ sum waiting
  pub within : end ≤ length waiting
  pub none : (i : ℕ) → end ≤ i → slice_index_or waiting i 0 ≡ 0
