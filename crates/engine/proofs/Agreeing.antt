-- What a call did keeps the world consistent, with its consumers named as they should be.
use Rattle.engine.proofs.Names.{◌≡◌, ◌+◌, ℕ, List, Bool, true, false, Some, sym, subst, IfOk, OnErr, MatchBool, Happening, opened_stream, running_stream, World, Same, Turns, Waits, is_over, is_gone, with_heard, TakesOutput, Delivers, delivers, Loses, IsConsistent, stay_consistent, worlds_named, OpensNew, OpensReady, Hears, IsLost, world_same, Parts, world_of, IsEngine, Turned, Turn}
use Rattle.std.proofs.Common.{Result, Ok, Err}
use Rattle.model.specs.declared.events.Event.TheVariants as event
use Rattle.laws.specs.Consumers.{IsWorldNamed}
use Rattle.engine.specs.declared.turning.Turn.TheVariants as turn

-- what an engine keeps of its world
pub record Agrees (w : World) : Type 0 where
  pub consistent : IsConsistent w
  pub named : IsWorldNamed w

pub agreed : (p : Parts) → IsEngine p → Agrees (world_of p)
agreed p e = record { consistent = e.consistent; named = e.named }

pub same_agrees : (old new : World) → Agrees old → Same old new → Agrees new
same_agrees old new k same = subst Agrees (sym (world_same old new same)) k

turns_agrees : (old new : World) (c : ℕ) (hs : List Happening) → Agrees old → Turns old c hs new → Agrees new
turns_agrees old new c hs k t = record { consistent = stay_consistent.turns old new c hs k.consistent t; named = worlds_named.turns old new c hs k.named t }

waits_agrees : (old new : World) (c : ℕ) → Agrees old → Waits old c new → Agrees new
waits_agrees old new c k w = record { consistent = stay_consistent.waits old new c k.consistent w; named = worlds_named.waits old new c k.named w }

pub hears_agrees : (old new : World) (c : ℕ) (bytes : List ℕ) → Agrees old → Hears old c bytes new → Agrees new
hears_agrees old new c bytes k heard = go (is_over old c) heard
  where
    go : (v : Bool) → MatchBool v (Same old new) (new ≡ with_heard old c bytes) → Agrees new
    go true same = same_agrees old new k same
    go false is = subst Agrees (sym is) (record { consistent = stay_consistent.hears old c bytes k.consistent; named = worlds_named.hears old c bytes k.named })

pub takes_off_agrees : (old new : World) (c n : ℕ) (hs : List Happening) → Agrees old → TakesOutput old c n hs new → Agrees new
takes_off_agrees old new c n hs k t = record { consistent = stay_consistent.takes old new c n hs k.consistent t; named = worlds_named.takes old new c n hs k.named t }

pub loses_agrees : (old new : World) (c : ℕ) → Agrees old → IsLost old c new → Agrees new
loses_agrees old new c k lost = go (is_gone old c) lost
  where
    go : (v : Bool) → MatchBool v (Same old new) ((hs : List Happening) × Loses old c hs new) → Agrees new
    go true same = same_agrees old new k same
    go false (hs, l) = record { consistent = stay_consistent.loses old new c hs k.consistent l; named = worlds_named.loses old new c hs k.named l }

pub opens_new_agrees : (old new : World) (n : ℕ) → Agrees old → OpensNew old (Some n) new → Agrees new
opens_new_agrees old new n k o = record {
  consistent = stay_consistent.awaits old new opened_stream o.2.0 k.consistent o.2.1;
  named = worlds_named.opens old new (event.Open (old.given + 1)) opened_stream o.2.0 tt k.named o.2.1;
}

pub opens_ready_agrees : (old new : World) (k n : ℕ) → Agrees old → OpensReady old k (Some n) new → Agrees new
opens_ready_agrees old new k n is o = record {
  consistent = stay_consistent.opens old new k running_stream o.2.0 is.consistent o.2.1;
  named = worlds_named.opens old new (event.Running (old.given + 1) 255 k) running_stream o.2.0 tt is.named o.2.1;
}

pub delivers_agrees : (old new : World) (c : ℕ) (hs : List Happening) → Agrees old → Delivers old c hs new → Agrees new
delivers_agrees old new c hs k d = record { consistent = stay_consistent.pumps old new hs k.consistent (delivers d); named = worlds_named.pumps old new hs k.named (delivers d) }

turned_agrees : (old new : World) (c : ℕ) (what : Turn) → Agrees old → Turned old c what new → Agrees new
turned_agrees old new c (turn.Did notes) k t = turns_agrees old new c t.happenings k t.turns
turned_agrees old new c turn.Idle k t = waits_agrees old new c k t.2
turned_agrees old new c turn.Paused k t = waits_agrees old new c k t.2
turned_agrees old new c turn.Over k t = waits_agrees old new c k t.1

pub turn_agrees : {E : Type 0} (r : Result Turn E) (old new : World) (c : ℕ) → Agrees old → IfOk r (λ t. Turned old c t new) → OnErr r (Waits old c new) → Agrees new
turn_agrees (Ok t) old new c k ok err = turned_agrees old new c t k ok
turn_agrees (Err e) old new c k ok err = waits_agrees old new c k err
