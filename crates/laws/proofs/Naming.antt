-- In every world that a run reaches consumers are named as they should be.
use Rattle.laws.proofs.Names.{ℕ, List, [], ◌∷◌, refl, sym, subst, AllByRecursion, Config, State, Step, Happening, Run, AreNamed, Occurrence, World, Waits, IsSaid, Reloads, Answers, can_open, is_over, is_gone, with_heard, Arrival, event_connection, IsWorldNamed, WorldsStayNamed, PlaysStayNamed, InForce, config_after}
use Rattle.model.specs.declared.events.Event.TheVariants as event
use Rattle.model.specs.declared.events.Arrival.TheVariants as arrival
use Rattle.laws.proofs.View.{deed_at}
use Rattle.laws.proofs.Counts.{from_either}
use Rattle.laws.proofs.Plays.{IsTold, Told, told_same, told_turns, told_taken, told_opens, told_heard, told_works_off, told_taken_and_works, told_loses, told_pumps}
use Rattle.laws.proofs.Reloading.{named_reloaded}
use Rattle.laws.proofs.Named.{named_on, stay_named}

step_named : (h : Happening) → IsSaid h.event → Step h.config h.before h.event h.sends h.notes h.after → AreNamed h.config.topology h.before.broker → AreNamed h.config.topology h.after.broker
step_named h said s a = named_on h.config.topology h.before.broker h.after.broker a h.event (event_connection h.event) h.sends h.notes said (deed_at h s)

run_named : (f last : Config) (hs : List Happening) (old new : State) → InForce f hs last → AllByRecursion IsTold hs → Run old hs new → AreNamed f.topology old.broker → AreNamed last.topology new.broker
run_named f last [] old new force told r a = subst (λ (g : Config). AreNamed g.topology new.broker) (sym force) (subst (λ (z : State). AreNamed f.topology z.broker) (sym r) a)
run_named f last (h ∷ hs) old new force told (e, s, r) a =
    let here : AreNamed h.config.topology h.before.broker = subst (λ (g : Config). AreNamed g.topology h.before.broker) (sym force.0) (subst (λ (z : State). AreNamed f.topology z.broker) (sym e) a) in
    run_named (config_after h) last hs h.after new force.1 told.1 r (step_named h told.0.said s here)

told_named : (old new : World) (hs : List Happening) → Told old hs new → IsWorldNamed old → IsWorldNamed new
told_named old new hs t a = run_named old.config new.config hs old.state new.state t.in_force t.each t.run a

waits_named : (old new : World) (c : ℕ) → IsWorldNamed old → Waits old c new → IsWorldNamed new
waits_named old new c a w = subst (λ (f : Config). AreNamed f.topology new.state.broker) (sym w.config) (subst (λ (z : State). AreNamed old.config.topology z.broker) (sym w.state) a)

reloads_named : (old new : World) (offered : Config) (os : List Occurrence) → IsWorldNamed old → Reloads old offered os new → IsWorldNamed new
reloads_named old new offered os a p =
    let before : AreNamed p.r.config.topology p.r.before.broker = subst (λ (f : Config). AreNamed f.topology p.r.before.broker) (sym p.under) (subst (λ (z : State). AreNamed old.config.topology z.broker) (sym p.before) a) in
    subst (λ (f : Config). AreNamed f.topology new.state.broker) p.in_force (subst (λ (z : State). AreNamed p.r.in_force.topology z.broker) p.after (named_reloaded p.r p.decided before))

pub worlds_named : WorldsStayNamed
worlds_named = record {
  new_worlds = λ f. stay_named.empty f.topology;
  turns = λ old new c hs a t. told_named old new hs (told_turns old new c hs t) a;
  waits = waits_named;
  hears = λ w c bytes a. a;
  takes = λ old new c n hs a t. told_named old new hs (told_taken c n old new hs t) a;
  opens = λ old new e s hs said a o. told_named old new hs (told_opens old new e s hs said o) a;
  loses = λ old new c hs a o. told_named old new hs (told_loses old new c hs o) a;
  pumps = λ old new hs a p. told_named old new hs (told_pumps old new hs p) a;
  reloads = reloads_named;
}

answers_named : (old new : World) (a : Arrival Config) (os : List Occurrence) → IsWorldNamed old → Answers old a os new → IsWorldNamed new
answers_named old new arrival.Open os k (hs, e, p) = from_either (can_open old) (λ o. told_named old new hs (told_opens old new (event.Open _) _ hs tt o) k) (λ s. told_named old new hs (told_same old new hs s) k) p
answers_named old new (arrival.Ready n) os k (hs, e, p) = from_either (can_open old) (λ o. told_named old new hs (told_opens old new (event.Running _ 255 n) _ hs tt o) k) (λ s. told_named old new hs (told_same old new hs s) k) p
answers_named old new (arrival.In c bytes) os k (hs, e, p) =
    from_either (is_over old c) (λ s. told_named old new hs (told_same old new hs s) k) (λ w. told_named old new hs (told_heard old new c bytes hs (told_works_off c (with_heard old c bytes) new hs w)) k) p
answers_named old new (arrival.Sent c n) os k (hs, e, p) = from_either (is_gone old c) (λ s. told_named old new hs (told_same old new hs s) k) (λ t. told_named old new hs (told_taken_and_works c n old new hs t) k) p
answers_named old new arrival.Pump os k (hs, e, p) = told_named old new hs (told_pumps old new hs p) k
answers_named old new (arrival.Lose c) os k (hs, e, p) = from_either (is_gone old c) (λ s. told_named old new hs (told_same old new hs s) k) (λ o. told_named old new hs (told_loses old new c hs o) k) p
answers_named old new (arrival.Reload g) os k p = reloads_named old new g os k p

pub plays_named : PlaysStayNamed
plays_named old new [] os k p = told_named old new [] (told_same old new [] (refl, p.1)) k
plays_named old new (a ∷ arrivals) os k (mid, first, rest, e, brings, p) = plays_named mid new arrivals rest (answers_named old mid a first k brings) p
