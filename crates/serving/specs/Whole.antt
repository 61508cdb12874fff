-- All that a server did since its start, and what is promised of it (own).
use Rattle.std.specs.Prelude.{◌≡◌, ◌+◌, ◌⊎◌, ℕ, zero, suc, List, [], ◌∷◌, ◌++◌, map, flat_map, Option}
use Rattle.std.specs.List.{AllByRecursion}
use Rattle.model.specs.Topology.{IsIn}
use Rattle.model.specs.State.{Config}
use Rattle.model.specs.Run.{Happening, put_out}
use Rattle.model.specs.History.{Occurrence, events_of}
use Rattle.model.specs.Arrivals.{World, Shown, shown, new_world, Plays}
use Rattle.model.specs.Headline.{IsSound, KeepsPromises}
use Rattle.model.specs.declared.events.Arrival.{Arrival}
use Rattle.runs.specs.Wants.{Lacks}
use Rattle.serving.specs.Wire.{Traffic, AddsCalls}
use Rattle.serving.specs.Coming.{Attempt, Attempts, IsWhole}
use Rattle.serving.specs.Story.{Served, served, Deed, At, calls, attempts, Story}
use Rattle.serving.specs.Serving.{Serving}
use Rattle.serving.specs.Joined.{IsJoined, AreJoined, AreBeginnings, AreCounted, all_met, written_to}
use Rattle.serving.specs.declared.peers.Peer.{Peer}

-- all that arrived at the machine by these deeds, in order
abbrev pub arrived : List Deed → List Attempt
arrived deeds = flat_map attempts deeds

-- the arrivals of these attempts
abbrev pub arrivals_of : List Attempt → List (Arrival Config)
arrivals_of as' = map (λ (a : Attempt). a.arrival) as'

-- what is seen of the n connections after the first k: all that was put out for each, and whether it is over
abbrev pub seen_after : List Happening → World → ℕ → ℕ → List Shown
seen_after hs w k zero = []
seen_after hs w k (suc n) = shown hs w (k + 1) ∷ seen_after hs w (k + 1) n

-- what is seen of all connections, in the order of their numbers
abbrev pub seen_of : List Happening → World → List Shown
seen_of hs w = seen_after hs w 0 w.given

-- What a server did since its world had no connection, under configuration `f` and over a wire that knew `traffic`: rounds, and reloads between them.
pub record IsServed (L : Lacks) (f : Config) (traffic : Traffic) (new : Served) : Type 0 where
  -- what was in force at the start is sound
  pub sound : IsSound f
  pub deeds : List Deed
  pub occurrences : List Occurrence
  pub story : Story L (served (new_world f) [] traffic) deeds occurrences new
  -- these are all calls of the wire, with their answers
  pub asked : AddsCalls traffic (flat_map calls deeds) new.traffic
  -- these are all arrivals, each performed whole or up to an allocation failure
  pub arrives : Attempts L (new_world f) (arrived deeds) occurrences new.world
  -- if no allocation failed, the arrivals are played exactly
  pub plays : AllByRecursion IsWhole (arrived deeds) → Plays (new_world f) (arrivals_of (arrived deeds)) occurrences new.world
  -- certified delivery, by what was in force at each event, even after an allocation failure
  pub promises : KeepsPromises f occurrences new.world.state.broker (seen_of (events_of occurrences) new.world)
  -- what arrived for a connection is what its socket gave and took
  pub joined : AreJoined deeds
  -- what a socket took is a prefix of what was put out for its connection
  pub written : AreBeginnings deeds occurrences
  -- for each socket, the totals that the wire knows are the number of bytes that arrived for its connection, and the number taken from that connection's output
  pub counted : AreCounted deeds new.traffic

-- whatever `IsServed` says of `old`, it says of `new`
abbrev pub StaysServed : Lacks → Served → Served → Type 0
StaysServed L old new = (f : Config) (traffic : Traffic) → IsServed L f traffic old → IsServed L f traffic new

-- `IsServed` is kept from one state of a server to another, whatever its wire knows
abbrev pub KeepsServed : {M : Type 0} → Lacks → (M → World) → Serving M → Serving M → Type 0
KeepsServed L world old new = (f : Config) (traffic now : Traffic)
    → IsServed L f traffic (served (world old.machine) old.peers now) → IsServed L f traffic (served (world new.machine) new.peers now)

-- `IsServed` holds of a state without peers whose machine is new: nothing was done yet
abbrev pub IsServedIfNew : Lacks → Served → Type 0
IsServedIfNew L v = (f : Config) → v.world ≡ new_world f → v.peers ≡ [] → IsServed L f v.traffic v

-- ---- one call of `serve`

-- the peer has a slot at the start, or is accepted by one of these deeds
abbrev pub IsOf : List (Option Peer) → List Deed → Peer → Type 0
IsOf ps deeds p = ((i : ℕ) × At ps i p) ⊎ IsIn p (all_met deeds)

-- what the peer's socket takes is a prefix of these bytes: the output that was not written yet, followed by what is put out meanwhile
abbrev pub TakesOn : Served → List Deed → List Occurrence → Peer → Type 0
TakesOn old deeds os p = (rest : List ℕ)
    × (flat_map (written_to p.socket) (flat_map calls deeds) ++ rest ≡ (old.world.wire p.connection).output ++ put_out p.connection (events_of os))

-- A call of `serve` continues where the server stopped.
pub record GoesOn (L : Lacks) (old new : Served) : Type 0 where
  pub deeds : List Deed
  pub occurrences : List Occurrence
  pub story : Story L old deeds occurrences new
  -- these are all calls of the wire, with their answers
  pub asked : AddsCalls old.traffic (flat_map calls deeds) new.traffic
  -- the arrivals of these deeds are all arrivals: commands are read from the bytes that were not performed yet, and then from those that are fed
  pub arrives : Attempts L old.world (arrived deeds) occurrences new.world
  -- what arrived for a connection is what its socket gave and took
  pub joined : (p : Peer) → IsOf old.peers deeds p → IsJoined p (flat_map calls deeds) (arrived deeds)
  -- what a socket took is a prefix of these bytes: the output that was not written yet, followed by what was put out meanwhile
  pub written : (p : Peer) → IsOf old.peers deeds p → TakesOn old deeds occurrences p

-- `new` goes on from `old`, if `IsServed` holds of `old`
abbrev pub GoesOnServed : Lacks → Served → Served → Type 0
GoesOnServed L old new = (f : Config) (traffic : Traffic) → IsServed L f traffic old → GoesOn L old new
