-- Whatever arrives, a world stays consistent.
use Rattle.std.specs.Prelude.{◌+◌, ℕ, List}
use Rattle.model.specs.Headline.{IsSound}
use Rattle.model.specs.State.{Config}
use Rattle.model.specs.Run.{Happening}
use Rattle.model.specs.History.{Occurrence}
use Rattle.model.specs.Commands.{Stream}
use Rattle.model.specs.Arrivals.{World, new_world, Turns, Waits, TakesOutput, Opens, Loses, Pumps, Reloads, Plays, with_heard}
use Rattle.model.specs.Consistent.{IsConsistent}
use Rattle.model.specs.declared.events.Arrival.{Arrival}
use Rattle.model.specs.declared.events.Event.TheVariants as event
use Rattle.laws.specs.Reloading.{AreOffered}

-- A world with no connection is consistent under a sound configuration. Each kind of step keeps a world
-- consistent, a reload if the configuration that it offers is sound.
pub record WorldsStayConsistent : Type 0 where
  pub new_worlds : (f : Config) → IsSound f → IsConsistent (new_world f)
  pub turns : (old new : World) (c : ℕ) (hs : List Happening) → IsConsistent old → Turns old c hs new → IsConsistent new
  pub waits : (old new : World) (c : ℕ) → IsConsistent old → Waits old c new → IsConsistent new
  pub hears : (w : World) (c : ℕ) (bytes : List ℕ) → IsConsistent w → IsConsistent (with_heard w c bytes)
  pub takes : (old new : World) (c n : ℕ) (hs : List Happening) → IsConsistent old → TakesOutput old c n hs new → IsConsistent new
  pub opens : (old new : World) (k : ℕ) (s : Stream) (hs : List Happening) → IsConsistent old
      → Opens old (event.Running (old.given + 1) 255 k) s hs new → IsConsistent new
  pub awaits : (old new : World) (s : Stream) (hs : List Happening) → IsConsistent old → Opens old (event.Open (old.given + 1)) s hs new → IsConsistent new
  pub loses : (old new : World) (c : ℕ) (hs : List Happening) → IsConsistent old → Loses old c hs new → IsConsistent new
  pub pumps : (old new : World) (hs : List Happening) → IsConsistent old → Pumps old hs new → IsConsistent new
  pub reloads : (old new : World) (offered : Config) (os : List Occurrence) → IsSound offered → IsConsistent old → Reloads old offered os new → IsConsistent new

-- Whatever arrives, a consistent world stays so, if what each reload offers is sound.
abbrev pub PlaysStayConsistent : Type 0
PlaysStayConsistent = (old new : World) (arrivals : List (Arrival Config)) (os : List Occurrence) → AreOffered arrivals → IsConsistent old
    → Plays old arrivals os new → IsConsistent new
