-- Slots for which there is nothing to do until something comes for them (own).
use Rattle.std.specs.Prelude.{◌≡◌, ◌≢◌, ◌↔◌, ◌≤◌, ◌<◌, ◌*◌, ℕ, List, length, Bool, true, false, cond, Option, slice_index_or}
use Rattle.model.specs.Arrivals.{World, is_awake, is_paused, has_output}
use Rattle.serving.specs.Story.{At, read_room}
use Rattle.serving.specs.Rounds.{HasEnded}
use Rattle.slab.specs.Slab.{Slab}
use Rattle.marks.specs.Sets.{bit_of}
use Rattle.serving.specs.Fit.{IsFit, most_peers}
use Rattle.serving.specs.declared.peers.Peer.{Peer}

-- The connection is awake, and has no output.
pub record IsQuiet (w : World) (c : ℕ) : Type 0 where
  pub awake : is_awake w c ≡ true
  pub silent : has_output w c ≡ false

-- slot `i` is marked
abbrev pub IsMarkedAt : List Bool → ℕ → Type 0
IsMarkedAt marks i = slice_index_or marks i false ≡ true

-- the connection of each peer in a marked slot is quiet
abbrev pub AreQuiet : World → List (Option Peer) → List Bool → Type 0
AreQuiet w ps marks = (i : ℕ) (p : Peer) → At ps i p → IsMarkedAt marks i → IsQuiet w p.connection

-- the bit of a slot in the set of slots without a mark; 0 past the end of the marks
abbrev pub loud_bit : List Bool → ℕ → ℕ
loud_bit marks i = cond (slice_index_or marks i true) 0 1

-- `loud` is the set of the slots without a mark, up to the end of the marks.
pub record AreLoud (loud : List ℕ) (marks : List Bool) : Type 0 where
  pub room : length marks ≤ length loud * 64
  pub each : (i : ℕ) → bit_of loud i ≡ loud_bit marks i

-- `slot` is the first slot without a mark at or after `from`.
pub record IsNextLoud (marks : List Bool) (from slot : ℕ) : Type 0 where
  pub least : from ≤ slot
  pub loud : slice_index_or marks slot false ≡ false
  pub before : (i : ℕ) → from ≤ i → i < slot → IsMarkedAt marks i

-- the slot holds a peer whose connection is paused
abbrev pub HoldsPaused : World → List (Option Peer) → ℕ → Type 0
HoldsPaused w ps i = (p : Peer) × At ps i p × (is_paused w p.connection ≡ true)

-- each slot that is marked as full holds a peer whose connection is paused
abbrev pub AreFull : World → List (Option Peer) → List Bool → Type 0
AreFull w ps marks = (i : ℕ) → IsMarkedAt marks i → HoldsPaused w ps i

-- marks of full slots stay right
abbrev pub StaysFull : World → List (Option Peer) → World → List (Option Peer) → Type 0
StaysFull old ps new qs = (marks : List Bool) → AreFull old ps marks → AreFull new qs marks

-- slot `i` does not hold connection c
abbrev pub IsOther : ℕ → List (Option Peer) → ℕ → Type 0
IsOther c ps i = (p : Peer) → At ps i p → p.connection ≢ c

-- the marks are unchanged, except that the slot of connection c has none
abbrev pub Wakes : ℕ → List (Option Peer) → List Bool → List Bool → Type 0
Wakes c ps old new = (i : ℕ) → IsMarkedAt new i ↔ IsMarkedAt old i × IsOther c ps i

-- The slots within a round: each taken one has a connection of its own, which is quiet if the slot is marked.
pub record AreInSlots (w : World) (ps : List (Option Peer)) (marks : List Bool) : Type 0 where
  pub fit : IsFit w ps
  pub quiet : AreQuiet w ps marks

-- The slots between two rounds: `AreInSlots`, without a connection that is over with an empty output, and at least 1,024.
pub record AreSettled (w : World) (peers : Slab Peer) (marks : List Bool) : Type 0 where
  pub in_slots : AreInSlots w peers.slots marks
  pub ended : (i : ℕ) → HasEnded w peers.slots i
  pub most : most_peers ≤ peers.capacity

-- The invariant of a server between rounds: the slots are settled, those marked as full hold paused connections, and the buffer has its full length.
pub record IsServerKept (w : World) (peers : Slab Peer) (marks fulls : List Bool) (buffer : List ℕ) : Type 0 where
  pub settled : AreSettled w peers marks
  pub full : AreFull w peers.slots fulls
  pub room : length buffer ≡ read_room
