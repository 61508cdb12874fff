-- The queues that set a key for their dead letters, and whose dead letters reach a given queue (RabbitMQ, "Dead Letter Exchanges").
use Rattle.std.specs.Prelude.{◌≡◌, ◌⊎◌, ◌<◌, ◌+◌, ℕ, List, [], ◌∷◌, ◌++◌, Bool, Option, Some, None, length}
use Rattle.model.specs.Words.{Text}
use Rattle.model.specs.Topology.{Topology, IsIn}
use Rattle.model.specs.Routing.{Comes, of_key}
use Rattle.model.specs.declared.topologies.Destination.TheVariants as destination
use Rattle.exchange_graph.specs.Marks.{IsSet}
use Rattle.paths.specs.declared.reach.Hop.{Hop}
use Rattle.paths.specs.declared.locations.Location.{Location}
use Rattle.paths.specs.declared.visits.Visit.{Visit}
use Rattle.paths.specs.Locations.{spot_place}
use Rattle.paths.specs.Onward.{Refixes}
use Rattle.paths.specs.Exploring.{AreExplored}

-- dead letters of the queue at index `at`, which gives them a key of its own, reach the queue `q`
pub record ComesAfter (t : Topology) (q : Text) (at : ℕ) : Type 0 where
  pub exchange : Text
  pub key : Text
  pub fixes : Refixes t at exchange key
  pub comes : Comes t (of_key key) None exchange q

-- the dead letters of queue `n` reach the queue `q` under its own key; or `n` is the number of all queues, which is the index of `q` itself here
abbrev pub IsLeading : Topology → Text → ℕ → Type 0
IsLeading t q n = (n ≡ length t.queues) ⊎ ComesAfter t q n

-- Exactly the indices are marked for which `IsLeading` holds.
pub record AreLeading (t : Topology) (q : Text) (marks : List Bool) : Type 0 where
  pub size : length marks ≡ length t.queues + 1
  pub sound : (n : ℕ) → IsSet marks n → IsLeading t q n
  pub all : (n : ℕ) → IsLeading t q n → IsSet marks n

-- the source of a location: the queue that set its key; if none did, the number of all queues for a location in the queue `q`, otherwise `None`
abbrev pub IsSource : Topology → Text → Location → Option ℕ → Type 0
IsSource t q s None = (s.fixed ≡ None) × (spot_place t s.spot ≡ destination.Queue q → ⊥)
IsSource t q s (Some n) = (s.fixed ≡ Some n) ⊎ ((s.fixed ≡ None) × (n ≡ length t.queues) × (spot_place t s.spot ≡ destination.Queue q))

-- the source of a location is marked
abbrev pub Leads : Topology → Text → Location → List Bool → Type 0
Leads t q s marks = (n : ℕ) × IsSource t q s (Some n) × IsSet marks n

-- the source of one of the visits is marked
abbrev pub SomeLeads : Topology → Text → List Visit → List Bool → Type 0
SomeLeads t q visits marks = (v : Visit) × IsIn v visits × Leads t q v.location marks

-- a link from `from` to `to`, or no link if `from` is `None`
abbrev pub links_from : Option ℕ → ℕ → List Hop
links_from None to = []
links_from (Some from) to = record { from = from; to = to } ∷ []

-- a link from the source of the location to `to` was added, if the location has a source
abbrev pub AddsLink : Topology → Text → Location → ℕ → List Hop → List Hop → Type 0
AddsLink t q s to old new = (from : Option ℕ) × IsSource t q s from × (new ≡ old ++ links_from from to)

-- A link to `to` was added from the source of each of the visits that has one, and no other link was.
pub record LinksAll (t : Topology) (q : Text) (visits : List Visit) (to : ℕ) (old new : List Hop) : Type 0 where
  pub kept : (l : Hop) → IsIn l old → IsIn l new
  pub only : (l : Hop) → IsIn l new → IsIn l old ⊎ ((v : Visit) × IsIn v visits × (l.to ≡ to) × IsSource t q v.location (Some l.from))
  pub all : (v : Visit) (n : ℕ) → IsIn v visits → IsSource t q v.location (Some n) → IsIn (record { from = n; to = to }) new

-- Both ends of a link are at most the number of queues, and if its `from` leads to the queue `q` (`IsLeading`), its `to` does, too.
pub record LinkHolds (t : Topology) (q : Text) (l : Hop) : Type 0 where
  pub from : l.from < length t.queues + 1
  pub to : l.to < length t.queues + 1
  pub leads : IsLeading t q l.from → IsLeading t q l.to

-- What dead letters of the queue at index `at` reach under its key was explored, and the source of each visit, if any, has a link to `at`.
pub record IsFront (t : Topology) (q : Text) (at : ℕ) (exchange key : Text) (links : List Hop) : Type 0 where
  pub visits : List Visit
  pub explored : AreExplored t exchange key visits
  pub linked : (v : Visit) (n : ℕ) → IsIn v visits → IsSource t q v.location (Some n) → IsIn (record { from = n; to = at }) links

-- The links to the queue at index `at` were added.
pub record AddsFront (t : Topology) (q : Text) (at : ℕ) (old new : List Hop) : Type 0 where
  pub kept : (l : Hop) → IsIn l old → IsIn l new
  pub only : (l : Hop) → IsIn l new → IsIn l old ⊎ LinkHolds t q l
  pub front : (exchange key : Text) → Refixes t at exchange key → IsFront t q at exchange key new

-- `links` has the links to each of the first `count` queues, and `LinkHolds` for each link.
pub record AreLinked (t : Topology) (q : Text) (links : List Hop) (count : ℕ) : Type 0 where
  pub holds : (l : Hop) → IsIn l links → LinkHolds t q l
  pub fronts : (at : ℕ) (exchange key : Text) → at < count → Refixes t at exchange key → IsFront t q at exchange key links
