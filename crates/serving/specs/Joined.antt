-- How the calls of each socket match the arrivals of its connection (own): the pieces that arrived are those that were read from the socket.
use Rattle.std.specs.Prelude.{◌≡◌, ◌+◌, ℕ, List, [], ◌∷◌, ◌++◌, length, filter_map, flat_map, sum_by}
use Rattle.std.specs.Prelude.{count_by, Bool, false, not, ◌==◌, ◌&&◌, Option, Some, None, if◌then◌else◌}
use Rattle.model.specs.Topology.{IsIn}
use Rattle.model.specs.State.{Config}
use Rattle.model.specs.Run.{put_out}
use Rattle.model.specs.History.{Occurrence, events_of}
use Rattle.model.specs.declared.events.Arrival.{Arrival}
use Rattle.model.specs.declared.events.Arrival.TheVariants.{In, Sent, Lose}
use Rattle.serving.specs.Wire.{Call, Traffic, Totals, Got, Read_ended, Read_failed, Took, Write_failed}
use Rattle.serving.specs.Coming.{Attempt}
use Rattle.serving.specs.Story.{Deed, Met, calls, attempts}
use Rattle.serving.specs.declared.peers.Peer.{Peer}

-- ---- of one connection

-- the bytes of an attempt that feeds connection c
abbrev pub piece_for : ℕ → Attempt → Option (List ℕ)
piece_for c a = piece a.arrival
  where
    piece : Arrival Config → Option (List ℕ)
    piece (In d bytes) = if d == c then Some bytes else None
    piece other = None

-- the number of bytes of an attempt that takes output of connection c; `None` for any other attempt
abbrev pub amount_for : ℕ → Attempt → Option ℕ
amount_for c a = amount a.arrival
  where
    amount : Arrival Config → Option ℕ
    amount (Sent d n) = if d == c then Some n else None
    amount other = None

-- whether an attempt is a loss of connection c
abbrev pub is_loss_of : ℕ → Attempt → Bool
is_loss_of c a = is_loss a.arrival
  where
    is_loss : Arrival Config → Bool
    is_loss (Lose d) = d == c
    is_loss other = false

-- whether an attempt is for connection c and failed to allocate
abbrev pub is_short_for : ℕ → Attempt → Bool
is_short_for c a = not a.is_whole && is_of a.arrival
  where
    is_of : Arrival Config → Bool
    is_of (In d bytes) = d == c
    is_of (Sent d n) = d == c
    is_of other = false

-- ---- of one socket

-- the bytes that a read of socket s got; `None` for any other call
abbrev pub got_of : ℕ → Call → Option (List ℕ)
got_of s (Got t room bytes) = if t == s then Some bytes else None
got_of s call = None

-- the bytes that a write to socket s took
abbrev pub written_to : ℕ → Call → List ℕ
written_to s (Took t offered taken) = if t == s then taken else []
written_to s call = []

-- the number of bytes that a write to socket s took
abbrev pub count_of : ℕ → Call → Option ℕ
count_of s (Took t offered taken) = if t == s then Some (length taken) else None
count_of s call = None

-- whether the input of socket s ended, or a read of it or a write to it failed
abbrev pub is_end_of : ℕ → Call → Bool
is_end_of s (Read_ended t room) = t == s
is_end_of s (Read_failed t room) = t == s
is_end_of s (Write_failed t offered) = t == s
is_end_of s call = false

-- ---- whose socket is which

-- the socket that a deed accepted, with its connection, if it did
abbrev pub met_by : Deed → List Peer
met_by (Met i p) = p ∷ []
met_by deed = []

-- all sockets that were accepted, with their connections, in order
abbrev pub all_met : List Deed → List Peer
all_met deeds = flat_map met_by deeds

-- The calls of one socket match the arrivals of its connection.
pub record IsJoined (p : Peer) (asked : List Call) (arrived : List Attempt) : Type 0 where
  -- each piece that arrived for the connection was read from the socket, and all that was read arrived
  pub pieces : filter_map (piece_for p.connection) arrived ≡ filter_map (got_of p.socket) asked
  -- the numbers of bytes taken from the connection's output are those that the socket took
  pub amounts : filter_map (amount_for p.connection) arrived ≡ filter_map (count_of p.socket) asked
  -- the connection was lost once for each end or failure of the socket, and once for each allocation that failed for the connection
  pub losses : count_by (is_loss_of p.connection) arrived ≡ count_by (is_end_of p.socket) asked + count_by (is_short_for p.connection) arrived

-- `IsJoined` holds of each socket that was accepted
abbrev pub AreJoined : List Deed → Type 0
AreJoined deeds = (p : Peer) → IsIn p (all_met deeds) → IsJoined p (flat_map calls deeds) (flat_map attempts deeds)

-- how many bytes arrived for a connection
abbrev pub bytes_in : ℕ → List Attempt → ℕ
bytes_in c arrived = sum_by length (filter_map (piece_for c) arrived)

-- how many bytes of a connection's output were taken
abbrev pub bytes_out : ℕ → List Attempt → ℕ
bytes_out c arrived = sum_by (λ (n : ℕ). n) (filter_map (amount_for c) arrived)

-- the totals that the wire knows of an accepted socket are right: the number of bytes that arrived for its connection, and the number of bytes
-- that were taken of the connection's output
abbrev pub AreCounted : List Deed → Traffic → Type 0
AreCounted deeds traffic = (p : Peer) → IsIn p (all_met deeds) → (t : Totals) → traffic.totals p.socket ≡ Some t
    → (t.got ≡ bytes_in p.connection (flat_map attempts deeds))
    × (t.taken ≡ bytes_out p.connection (flat_map attempts deeds))

-- all that a socket took, in order, is a prefix of what was put out for its connection
abbrev pub AreBeginnings : List Deed → List Occurrence → Type 0
AreBeginnings deeds os = (p : Peer) → IsIn p (all_met deeds) → (rest : List ℕ)
    × (flat_map (written_to p.socket) (flat_map calls deeds) ++ rest ≡ put_out p.connection (events_of os))
