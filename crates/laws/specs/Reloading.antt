-- Histories: events, and reloads between them that offer sound configurations (own).
use Rattle.std.specs.Prelude.{List}
use Rattle.std.specs.List.{AllByRecursion}
use Rattle.model.specs.State.{Config, State}
use Rattle.model.specs.History.{Occurrence, Reload, History, events_of, reloads_of}
use Rattle.model.specs.Headline.{IsSound, KeepsOccurrences}
use Rattle.model.specs.declared.events.Arrival.{Arrival}
use Rattle.model.specs.declared.events.Arrival.TheVariants as arrival
use Rattle.laws.specs.Promises.{AreSaid, IsBegun}

-- Each of the reloads offered a sound configuration.
abbrev pub OfferSound : List Reload → Type 0
OfferSound rs = AllByRecursion (λ (r : Reload). IsSound r.offered) rs

-- If the arrival is a reload, it offers a sound configuration.
abbrev pub IsOffered : Arrival Config → Type 0
IsOffered (arrival.Reload offered) = IsSound offered
IsOffered a = Unit {0}

-- Each reload among the arrivals offers a sound configuration.
abbrev pub AreOffered : List (Arrival Config) → Type 0
AreOffered arrivals = AllByRecursion IsOffered arrivals

-- A history that leaves `last` in force: its events keep the promises, each under the configuration in force at it. Another history
-- may follow it, since `last` is sound and the messages that are left may be in their queues under `last`.
pub record KeepsOn (old : State) (os : List Occurrence) (last : Config) (new : State) : Type 0 where
  pub kept : KeepsOccurrences old.broker os new.broker
  pub begun : IsBegun last new.broker
  pub sound : IsSound last

-- If each message may be in its queue at the beginning, every history keeps the promises, also for messages that came under an earlier configuration.
abbrev pub HistoriesKeep : Type 0
HistoriesKeep = (f last : Config) (os : List Occurrence) (old new : State) → IsSound f → OfferSound (reloads_of os) → AreSaid (events_of os)
    → IsBegun f old.broker → History f old os last new → KeepsOn old os last new
