-- Which connection has which slot, and what one connection's arrivals leave unchanged.
use Rattle.std.specs.Prelude.{◌≡◌, ◌≢◌, ◌⊎◌, ◌≤◌, ◌<◌, ℕ, List, Option, None, slice_set}
use Rattle.model.specs.Arrivals.{World}
use Rattle.serving.specs.Story.{At}
use Rattle.serving.specs.declared.peers.Peer.{Peer}

-- the least number of slots that a server has; at most as many connections are not gone
abbrev pub most_peers : ℕ
most_peers = 1024

-- Each taken slot has a connection of its own, which was opened.
pub record IsFit (w : World) (peers : List (Option Peer)) : Type 0 where
  pub distinct : (i j : ℕ) (p q : Peer) → At peers i p → At peers j q → p.connection ≡ q.connection → i ≡ j
  pub numbered : (i : ℕ) (p : Peer) → At peers i p → 0 < p.connection
  pub given : (i : ℕ) (p : Peer) → At peers i p → p.connection ≤ w.given

-- each connection other than `c` keeps its phase, its unread bytes and its output
pub record OthersStay (c : ℕ) (old new : World) : Type 0 where
  pub wires : (d : ℕ) → d ≢ c → new.wire d ≡ old.wire d
  pub sessions : (d : ℕ) → d ≢ c → new.state.session d ≡ old.state.session d

-- the slots `qs` are `ps`, except that slot `i` may be free now
abbrev pub StaysOrFrees : List (Option Peer) → ℕ → List (Option Peer) → Type 0
StaysOrFrees ps i qs = (qs ≡ ps) ⊎ (qs ≡ slice_set ps i None)
