-- Whatever is done, what happens is a run, under what is in force, of commands that were said and sends that were put out.
use Rattle.laws.proofs.Names.{◌≡◌, ◌≤◌, ℕ, List, [], ◌∷◌, ◌++◌, Bool, true, false, refl, sym, subst, ◌⊎◌, inl, inr, AllByRecursion, Config, State, Step, Happening, Run, IsSpelled, Stream, World, Turns, Works, none_more, one_more, Waits, WorksOff, Same, with_heard, Opens, Loses, Pumps, delivers, idles, TakesOutput, TakesAndWorks, Puts, Pauses, Happens, IsSaid, Send, Event, IsSound, AreSaid, AreSound, InForce, config_after}
use Rattle.model.specs.declared.events.Event.TheVariants as event
use Rattle.laws.proofs.Counts.{all-append}

-- ---- what is told of the happenings of a run

-- what was put out in it can be read back
pub record IsPut (h : Happening) : Type 0 where
  pub spelled : AllByRecursion (IsSpelled h.frame_max) h.sends
  pub bounded : (h.sends ≡ []) ⊎ (h.frame_max ≤ 131072)

-- one happening of a world
pub record IsTold (h : Happening) : Type 0 where
  pub said : IsSaid h.event
  pub put : IsPut h

pub said_each : (hs : List Happening) → AllByRecursion IsTold hs → AreSaid hs
said_each [] a = tt
said_each (h ∷ hs) a = (a.0.said, said_each hs a.1)

-- what is in force at each event is sound where the first is
pub sound_each : (f last : Config) (hs : List Happening) → InForce f hs last → IsSound f → AreSound hs
sound_each f last [] force sound = tt
sound_each f last (h ∷ hs) force sound = let here = subst IsSound (sym force.0) sound in (here, sound_each (config_after h) last hs force.1 here)

-- and so is the last
pub sound_last : (f last : Config) (hs : List Happening) → InForce f hs last → IsSound f → IsSound last
sound_last f last [] force sound = subst IsSound (sym force) sound
sound_last f last (h ∷ hs) force sound = sound_last (config_after h) last hs force.1 (subst IsSound (sym force.0) sound)

force-append : (hs ks : List Happening) (f mid last : Config) → InForce f hs mid → InForce mid ks last → InForce f (hs ++ ks) last
force-append [] ks f mid last a b = subst (λ (g : Config). InForce g ks last) a b
force-append (h ∷ hs) ks f mid last a b = (a.0, force-append hs ks (config_after h) mid last a.1 b)

pub record Told (old : World) (hs : List Happening) (new : World) : Type 0 where
  pub run : Run old.state hs new.state
  pub in_force : InForce old.config hs new.config
  pub each : AllByRecursion IsTold hs

pub run-append : (hs ks : List Happening) (old mid new : State) → Run old hs mid → Run mid ks new → Run old (hs ++ ks) new
run-append [] ks old mid new r s = subst (λ (b : State). Run b ks new) r s
run-append (h ∷ hs) ks old mid new (e, step, r) s = (e, step, run-append hs ks h.after mid new r s)

-- what it does, from the state before it to the one after it
pub step_of : (f : Config) (old new : State) (e : Event) (h : Happening) → Happens f old e h new → Step h.config h.before h.event h.sends h.notes h.after
step_of f old new e h p =
    subst (λ (g : Config). Step g h.before h.event h.sends h.notes h.after) (sym p.under)
    (subst (λ (x : Event). Step f h.before x h.sends h.notes h.after) (sym p.event)
    (subst (λ (z : State). Step f z e h.sends h.notes h.after) (sym p.before)
    (subst (λ (z : State). Step f old e h.sends h.notes z) (sym p.after) p.stepped)))

run_one : (f : Config) (old new : State) (e : Event) (h : Happening) → Happens f old e h new → Run old (h ∷ []) new
run_one f old new e h p = (p.before, step_of f old new e h p, sym p.after)

pub told-append : (old mid new : World) (hs ks : List Happening) → Told old hs mid → Told mid ks new → Told old (hs ++ ks) new
told-append old mid new hs ks a b = record {
  run = run-append hs ks old.state mid.state new.state a.run b.run;
  in_force = force-append hs ks old.config mid.config new.config a.in_force b.in_force;
  each = all-append IsTold hs ks a.each b.each;
}

pub told_at : (old new : World) (hs ks : List Happening) → hs ≡ ks → Told old ks new → Told old hs new
told_at old new hs ks e t = subst (λ (z : List Happening). Told old z new) (sym e) t

pub told_same : (old new : World) (hs : List Happening) → (hs ≡ []) × Same old new → Told old hs new
told_same old new hs p = told_at old new hs [] p.0 (record { run = p.1.state; in_force = p.1.config; each = tt })

-- a happening without sends
silent_put : (h : Happening) → h.sends ≡ [] → IsPut h
silent_put h e = record {
  spelled = subst (λ (s : List Send). AllByRecursion (IsSpelled h.frame_max) s) (sym e) tt;
  bounded = inl e;
}

silent_told : (f : Config) (old new : State) (e : Event) (h : Happening) → IsSaid e → h.sends ≡ [] → Happens f old e h new → IsTold h
silent_told f old new e h said silent p = record { said = subst IsSaid (sym p.event) said; put = silent_put h silent }

-- a pause or a resumption, or none
pub record Settled (f : Config) (mid : State) (hs : List Happening) (new : State) : Type 0 where
  pub run : Run mid hs new
  pub in_force : InForce f hs f
  pub each : AllByRecursion IsTold hs

settled_none : (f : Config) (mid new : State) (hs : List Happening) → (hs ≡ []) × (new ≡ mid) → Settled f mid hs new
settled_none f mid new hs p = record {
  run = subst (λ (z : List Happening). Run mid z new) (sym p.0) p.1;
  in_force = subst (λ (z : List Happening). InForce f z f) (sym p.0) refl;
  each = subst (AllByRecursion IsTold) (sym p.0) tt;
}

settled_one : (f : Config) (mid new : State) (e : Event) (h : Happening) (hs : List Happening) → IsSaid e → h.sends ≡ [] → hs ≡ h ∷ [] → Happens f mid e h new → Settled f mid hs new
settled_one f mid new e h hs said silent all p = record {
  run = subst (λ (z : List Happening). Run mid z new) (sym all) (run_one f mid new e h p);
  in_force = subst (λ (z : List Happening). InForce f z f) (sym all) (p.under, sym p.under);
  each = subst (AllByRecursion IsTold) (sym all) (silent_told f mid new e h said silent p, tt);
}

settled_is : (f : Config) (mid new : State) (c : ℕ) (x y : Bool) (hs : List Happening) → Pauses f mid c x y hs new → Settled f mid hs new
settled_is f mid new c false true hs (h, all, p) = settled_one f mid new (event.Pause c) h hs tt p.stepped.acts.sent all p
settled_is f mid new c true false hs (h, all, p) = settled_one f mid new (event.Resume c) h hs tt p.stepped.acts.sent all p
settled_is f mid new c true true hs p = settled_none f mid new hs p
settled_is f mid new c false false hs p = settled_none f mid new hs p

-- what a world has in force that has what another had
stays_in_force : (f last : Config) (hs : List Happening) → last ≡ f → InForce f hs f → InForce f hs last
stays_in_force f last hs is force = subst (InForce f hs) (sym is) force

pub told_puts : (a b : World) (e : Event) (c : ℕ) (hs : List Happening) → IsSaid e → Puts a e c hs b → Told a hs b
told_puts a b e c hs said p =
    let rest = settled_is a.config p.mid b.state c _ _ p.rest p.pauses in
    let put : IsPut p.h = record {
      spelled = p.spelled;
      bounded = inr p.bounded;
    } in
    let first : IsTold p.h = record { said = subst IsSaid (sym p.happens.event) said; put = put } in
    told_at a b hs (p.h ∷ p.rest) p.all (record {
      run = run-append (p.h ∷ []) p.rest a.state p.mid b.state (run_one a.config a.state p.mid e p.h p.happens) rest.run;
      in_force = force-append (p.h ∷ []) p.rest a.config a.config b.config (p.happens.under, sym p.happens.under) (stays_in_force a.config b.config p.rest p.config rest.in_force);
      each = (first, rest.each);
    })

pub told_turns : (a b : World) (c : ℕ) (hs : List Happening) → Turns a c hs b → Told a hs b
told_turns a b c hs t = told_puts a b t.event c hs t.said t.puts

pub told_works : (c : ℕ) (a b : World) (hs : List Happening) → Works c a hs b → Told a hs b
told_works c a b hs none_more = record { run = refl; in_force = refl; each = tt }
told_works c a b hs (one_more {mid = m} {first = f} {rest = r} t more e) = told_at a b hs (f ++ r) e (told-append a m b f r (told_turns a m c f t) (told_works c m b r more))

pub told_waits : (c : ℕ) (a m b : World) (hs : List Happening) → Told a hs m → Waits m c b → Told a hs b
told_waits c a m b hs t v = record {
  run = subst (λ (s : State). Run a.state hs s) (sym v.state) t.run;
  in_force = subst (InForce a.config hs) (sym v.config) t.in_force;
  each = t.each;
}

pub told_works_off : (c : ℕ) (a b : World) (hs : List Happening) → WorksOff a c hs b → Told a hs b
told_works_off c a b hs w = told_waits c a w.mid b hs (told_works c a w.mid hs w.works) w.waits

-- the bytes heard change neither what is in force nor the broker
pub told_heard : (a b : World) (c : ℕ) (bytes : List ℕ) (hs : List Happening) → Told (with_heard a c bytes) hs b → Told a hs b
told_heard a b c bytes hs t = record { run = t.run; in_force = t.in_force; each = t.each }

pub told_taken : (c n : ℕ) (a b : World) (hs : List Happening) → TakesOutput a c n hs b → Told a hs b
told_taken c n a b hs t =
    let s = settled_is a.config a.state b.state c _ _ hs t.pauses in
    record { run = s.run; in_force = stays_in_force a.config b.config hs t.config s.in_force; each = s.each }

pub told_taken_and_works : (c n : ℕ) (a b : World) (hs : List Happening) → TakesAndWorks a c n hs b → Told a hs b
told_taken_and_works c n a b hs t = told_at a b hs (t.first ++ t.rest) t.all (told-append a t.mid b t.first t.rest (told_taken c n a t.mid t.first t.takes) (told_works_off c t.mid b t.rest t.works))

-- one happening without sends
told_one : (a b : World) (e : Event) (h : Happening) (hs : List Happening) → IsSaid e → hs ≡ h ∷ [] → Happens a.config a.state e h b.state → h.sends ≡ [] → b.config ≡ a.config → Told a hs b
told_one a b e h hs said all p silent config =
    let s = settled_one a.config a.state b.state e h hs said silent all p in
    record { run = s.run; in_force = stays_in_force a.config b.config hs config s.in_force; each = s.each }

pub told_opens : (a b : World) (e : Event) (s : Stream) (hs : List Happening) → IsSaid e → Opens a e s hs b → Told a hs b
told_opens a b e s hs said o = told_one a b e o.h hs said o.all o.happens o.silent o.config

pub told_loses : (a b : World) (c : ℕ) (hs : List Happening) → Loses a c hs b → Told a hs b
told_loses a b c hs o = told_one a b (event.Lose c) o.h hs tt o.all o.happens o.silent o.config

pub told_pumps : (a b : World) (hs : List Happening) → Pumps a hs b → Told a hs b
told_pumps a b hs (delivers {c = c} d) = told_puts a b (event.Deliver c) c hs tt d.puts
told_pumps a b hs (idles n p) = told_same a b hs p
