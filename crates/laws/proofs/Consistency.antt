-- Whatever arrives, the world keeps what every world keeps.
use Rattle.laws.proofs.Names.{◌≡◌, ℕ, List, [], refl, sym, subst, Config, State, Happening, AreCounted, Occurrence, events_of, AreCarried, Stream, World, new_world, Same, Turns, Waits, Pumps, TakesOutput, Opens, Loses, Reloads, with_heard, IsConsistent, IsSound, AreKept}
use Rattle.std.proofs.Common.{◌+◌}
use Rattle.model.specs.declared.events.Event.TheVariants as event
use Rattle.laws.specs.Consistency.{WorldsStayConsistent, PlaysStayConsistent}
use Rattle.laws.proofs.Carried.{run_carries}
use Rattle.laws.proofs.Linking.{IsLinked, linked_same, turns_linked, waits_linked, hears_linked, takes_linked, opens_linked, awaits_linked, loses_linked, same_linked, pumps_linked, new_is_linked, reloads_linked, plays_linked}
use Rattle.laws.proofs.Histories.{ToldOver, histories_keep, sounds_over, carried_over, over_reloads, over_plays}
use Rattle.laws.proofs.Keeping.{stay_kept}
use Rattle.laws.proofs.Never.{run_begun}
use Rattle.laws.proofs.Plays.{Told, said_each, sound_each, sound_last, told_same, told_turns, told_waits, told_taken, told_opens, told_loses, told_pumps}

pub linked : (w : World) → IsConsistent w → IsLinked w
linked w k = record { running = k.running; paused = k.paused; limits = k.limits }

-- what happened leaves messages that were counted, can be given out and may stand where they do, under what is sound
record Messages (w : World) : Type 0 where
  counted : AreCounted w.state.broker
  carried : AreCarried w.state.broker
  kept : AreKept w.config w.state.broker
  sound : IsSound w.config

told_messages : (hs : List Happening) (old new : World) → IsConsistent old → Told old hs new → Messages new
told_messages hs old new k t =
    let f = old.config in
    let last = new.config in
    let sound = sound_each f last hs t.in_force k.sound in
    let said = said_each hs t.each in
    let begun = run_begun f last hs old.state new.state sound t.in_force said (record { counted = k.counted; kept = k.kept }) t.run in
    record {
      counted = begun.counted;
      carried = run_carries hs old.state new.state sound said t.run k.carried;
      kept = begun.kept;
      sound = sound_last f last hs t.in_force k.sound;
    }

-- where nothing of the state changes, and no output
pub consistent_same : (old new : World) → IsConsistent old → new.config ≡ old.config → new.state ≡ old.state → ((d : ℕ) → (new.wire d).output ≡ (old.wire d).output) → IsConsistent new
consistent_same old new k config state outputs =
    let after = linked_same old new (linked old k) state outputs in
    record {
      counted = subst (λ (z : State). AreCounted z.broker) (sym state) k.counted;
      carried = subst (λ (z : State). AreCarried z.broker) (sym state) k.carried;
      kept = subst (λ (g : Config). AreKept g new.state.broker) (sym config) (subst (λ (z : State). AreKept old.config z.broker) (sym state) k.kept);
      sound = subst IsSound (sym config) k.sound;
      running = after.running;
      paused = after.paused;
      limits = after.limits;
    }

-- what happened, and what links the world
kept_consistent : (old new : World) (hs : List Happening) → IsConsistent old → Told old hs new → IsLinked new → IsConsistent new
kept_consistent old new hs k told after =
    let messages = told_messages hs old new k told in
    record { counted = messages.counted; carried = messages.carried; kept = messages.kept; sound = messages.sound; running = after.running; paused = after.paused; limits = after.limits }

pub turns_consistent : (old new : World) (c : ℕ) (hs : List Happening) → IsConsistent old → Turns old c hs new → IsConsistent new
turns_consistent old new c hs k t = kept_consistent old new hs k (told_turns old new c hs t) (turns_linked old new c hs (linked old k) t)

pub waits_consistent : (old new : World) (c : ℕ) → IsConsistent old → Waits old c new → IsConsistent new
waits_consistent old new c k v = kept_consistent old new [] k (told_waits c old old new [] (record { run = refl; in_force = refl; each = tt }) v) (waits_linked old new c (linked old k) v)

pub hears_consistent : (w : World) (c : ℕ) (bytes : List ℕ) → IsConsistent w → IsConsistent (with_heard w c bytes)
hears_consistent w c bytes k = kept_consistent w (with_heard w c bytes) [] k (record { run = refl; in_force = refl; each = tt }) (hears_linked w c bytes (linked w k))

pub takes_consistent : (old new : World) (c n : ℕ) (hs : List Happening) → IsConsistent old → TakesOutput old c n hs new → IsConsistent new
takes_consistent old new c n hs k t = kept_consistent old new hs k (told_taken c n old new hs t) (takes_linked old new c n hs (linked old k) t)

pub opens_consistent : (old new : World) (k : ℕ) (s : Stream) (hs : List Happening) → IsConsistent old → Opens old (event.Running (old.given + 1) 255 k) s hs new → IsConsistent new
opens_consistent old new k s hs is o = kept_consistent old new hs is (told_opens old new (event.Running (old.given + 1) 255 k) s hs tt o) (opens_linked old new k s hs (linked old is) o)

pub awaits_consistent : (old new : World) (s : Stream) (hs : List Happening) → IsConsistent old → Opens old (event.Open (old.given + 1)) s hs new → IsConsistent new
awaits_consistent old new s hs is o = kept_consistent old new hs is (told_opens old new (event.Open (old.given + 1)) s hs tt o) (awaits_linked old new s hs (linked old is) o)

pub loses_consistent : (old new : World) (c : ℕ) (hs : List Happening) → IsConsistent old → Loses old c hs new → IsConsistent new
loses_consistent old new c hs k o = kept_consistent old new hs k (told_loses old new c hs o) (loses_linked old new c hs (linked old k) o)

pub same_consistent : (old new : World) (hs : List Happening) → IsConsistent old → (hs ≡ []) × Same old new → IsConsistent new
same_consistent old new hs k p = kept_consistent old new hs k (told_same old new hs p) (same_linked old new hs (linked old k) p)

pub pumps_consistent : (old new : World) (hs : List Happening) → IsConsistent old → Pumps old hs new → IsConsistent new
pumps_consistent old new hs k p = kept_consistent old new hs k (told_pumps old new hs p) (pumps_linked old new hs (linked old k) p)

pub new_is_consistent : (f : Config) → IsSound f → IsConsistent (new_world f)
new_is_consistent f sound =
    let start = new_is_linked f in
    record { counted = λ n q lt. refl; carried = λ q. tt; kept = stay_kept.empty f; sound = sound; running = start.running; paused = start.paused; limits = start.limits }

-- ---- arrivals

-- what happened over a history, and what links the world
over_consistent : (old new : World) (os : List Occurrence) → IsConsistent old → ToldOver old os new → IsLinked new → IsConsistent new
over_consistent old new os k told after =
    let said = said_each (events_of os) told.each in
    let keeps = histories_keep old.config new.config os old.state new.state k.sound told.offered said (record { counted = k.counted; kept = k.kept }) told.history in
    let sounds = sounds_over old.config new.config os old.state new.state k.sound told.offered told.history in
    record {
      counted = keeps.begun.counted;
      carried = carried_over old.config new.config os old.state new.state told.history sounds said k.carried;
      kept = keeps.begun.kept;
      sound = keeps.sound;
      running = after.running;
      paused = after.paused;
      limits = after.limits;
    }

pub reloads_consistent : (old new : World) (offered : Config) (os : List Occurrence) → IsSound offered → IsConsistent old → Reloads old offered os new → IsConsistent new
reloads_consistent old new offered os sound k p = over_consistent old new os k (over_reloads old new offered os sound p) (reloads_linked old new offered os (linked old k) p)

pub stay_consistent : WorldsStayConsistent
stay_consistent = record {
  new_worlds = new_is_consistent;
  turns = turns_consistent;
  waits = waits_consistent;
  hears = hears_consistent;
  takes = takes_consistent;
  opens = opens_consistent;
  awaits = awaits_consistent;
  loses = loses_consistent;
  pumps = pumps_consistent;
  reloads = reloads_consistent;
}

pub plays_consistent : PlaysStayConsistent
plays_consistent old new arrivals os offered k p = over_consistent old new os k (over_plays old new arrivals os offered p) (plays_linked old new arrivals os (linked old k) p)
