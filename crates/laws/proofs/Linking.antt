-- Whatever arrives, the broker has the connections that run, knows which of them are paused, and has the channel-max of each.
use Rattle.laws.proofs.Names.{◌≡◌, ◌≢◌, ℕ, List, [], ◌∷◌, Bool, true, false, cond, refl, sym, ap, subst, ◌∙◌, inl, inr, ◌&&◌, ◌==◌, ne_eqb, eqb-true, eqb-false, false≢true, with_one, Config, State, Happening, Occurrence, Stream, IsSaid, World, Wire, new_world, is_over, is_paused, is_past_bound, is_gone, can_open, Same, Turns, Waits, Works, none_more, one_more, WorksOff, Puts, Delivers, Pumps, delivers, idles, TakesOutput, Opens, Loses, Reloads, Answers, Plays, with_heard, Arrival, Event}
use Rattle.std.proofs.Common.{◌+◌}
use Rattle.std.specs.Prelude.{not}
use Rattle.model.specs.declared.events.Arrival.TheVariants as arrival
use Rattle.model.specs.declared.events.Event.TheVariants as event
use Rattle.laws.proofs.Counts.{from_either}
use Rattle.laws.proofs.Reloading.{all_marked, state_left, linked_marked}
use Rattle.laws.proofs.Linked.{Agrees, with_here, read_agrees, settled_agrees, step_agrees}

-- the broker has exactly the connections that run, knows those as paused whose output is past the bound, and has the channel-max of each
abbrev pub IsLinked : World → Type 0
IsLinked w = Agrees w.state.broker w.state.session (is_paused w)

-- where nothing of the state changes, and no output
pub linked_same : (old new : World) → IsLinked old → new.state ≡ old.state → ((d : ℕ) → (new.wire d).output ≡ (old.wire d).output) → IsLinked new
linked_same old new k state outputs = record {
  running = subst (λ (z : State). (c : ℕ) → Rattle.std.specs.Prelude.is_some (z.broker.connection c) ≡ Rattle.model.specs.Phases.is_running (z.session c).phase) (sym state) k.running;
  paused = λ c conn e. k.paused c conn (ap (λ (z : State). z.broker.connection c) (sym state) ∙ e) ∙ ap is_past_bound (sym (outputs c));
  limits = λ c conn e. k.limits c conn (ap (λ (z : State). z.broker.connection c) (sym state) ∙ e) ∙ ap (λ (z : State). (z.session c).channel_max) (sym state);
}

others_and_own : (old new : World) (c : ℕ) → ((d : ℕ) → d ≢ c → (new.wire d).output ≡ (old.wire d).output) → (new.wire c).output ≡ (old.wire c).output → (d : ℕ) → (new.wire d).output ≡ (old.wire d).output
others_and_own old new c others own d = go (d == c) refl
  where
    go : (v : Bool) → (d == c) ≡ v → (new.wire d).output ≡ (old.wire d).output
    go true q = subst (λ (n : ℕ). (new.wire n).output ≡ (old.wire n).output) (sym (eqb-true d c q)) own
    go false q = others d (eqb-false d c q)

is_awake_still : (over paused : Bool) → (not over && not paused) ≡ true → paused ≡ false
is_awake_still over false e = refl
is_awake_still true true e = absurd (false≢true e)
is_awake_still false true e = absurd (false≢true e)

-- an event whose sends are put out, after which the broker agrees with the phases
puts_linked : (old new : World) (e : Event) (c : ℕ) (hs : List Happening) → IsSaid e → IsLinked old → (p : Puts old e c hs new) → Agrees p.mid.broker p.mid.session (is_paused old) → IsLinked new
puts_linked old new e c hs said k p mid =
    settled_agrees old.config p.mid new.state c (is_paused old c) (is_paused new c) p.rest (is_paused old) (is_paused new) p.pauses mid refl refl (λ d ne. ap (λ (w : Wire). is_past_bound w.output) (p.others d ne))

pub turns_linked : (old new : World) (c : ℕ) (hs : List Happening) → IsLinked old → Turns old c hs new → IsLinked new
turns_linked old new c hs k t =
    let p = t.puts in
    puts_linked old new t.event c hs t.said k p
    (read_agrees c (old.wire c).kept (old.wire c).stream t.next t.event old.config old.state p.mid p.h.sends p.h.notes (is_paused old) t.read k (is_awake_still (is_over old c) (is_paused old c) t.awake) p.happens.stepped)

pub waits_linked : (old new : World) (c : ℕ) → IsLinked old → Waits old c new → IsLinked new
waits_linked old new c k v = linked_same old new k v.state (others_and_own old new c (λ d ne. ap (λ (w : Wire). w.output) (v.others d ne)) v.output)

wire_changed : (f : ℕ → Wire) (c d : ℕ) (w : Wire) → d ≢ c → with_one f c w d ≡ f d
wire_changed f c d w ne = ap (λ (b : Bool). cond b w (f d)) (ne_eqb d c ne)

pub hears_linked : (w : World) (c : ℕ) (bytes : List ℕ) → IsLinked w → IsLinked (with_heard w c bytes)
hears_linked w c bytes k = linked_same w (with_heard w c bytes) k refl
    (others_and_own w (with_heard w c bytes) c (λ d ne. ap (λ (x : Wire). x.output) (wire_changed w.wire c d _ ne)) (ap (λ (x : Wire). x.output) (with_here w.wire c _)))

pub takes_linked : (old new : World) (c n : ℕ) (hs : List Happening) → IsLinked old → TakesOutput old c n hs new → IsLinked new
takes_linked old new c n hs k t =
    settled_agrees old.config old.state new.state c (is_paused old c) (is_paused new c) hs (is_paused old) (is_paused new) t.pauses k refl refl
    (λ d ne. ap (λ (w : Wire). is_past_bound w.output) (t.wires d ∙ wire_changed old.wire c d _ ne))

-- an opening, after which the broker agrees with the phases
opened_linked : (old new : World) (e : Event) (s : Stream) (hs : List Happening) → IsSaid e → IsLinked old → Opens old e s hs new → Agrees new.state.broker new.state.session (is_paused new) → IsLinked new
opened_linked old new e s hs said is o after =
    after

pub opens_linked : (old new : World) (k : ℕ) (s : Stream) (hs : List Happening) → IsLinked old → Opens old (event.Running (old.given + 1) 255 k) s hs new → IsLinked new
opens_linked old new k s hs is o =
    let c = old.given + 1 in
    opened_linked old new (event.Running c 255 k) s hs tt is o (
    step_agrees old.config old.state new.state (event.Running c 255 k) o.h.sends o.h.notes (is_paused old) (is_paused new) is
    (λ d ne. ap (λ (w : Wire). is_past_bound w.output) (o.wires d ∙ wire_changed old.wire c d _ ne)) (ap (λ (w : Wire). is_past_bound w.output) (o.wires c ∙ with_here old.wire c _)) o.happens.stepped
    )

pub awaits_linked : (old new : World) (s : Stream) (hs : List Happening) → IsLinked old → Opens old (event.Open (old.given + 1)) s hs new → IsLinked new
awaits_linked old new s hs is o =
    let c = old.given + 1 in
    opened_linked old new (event.Open c) s hs tt is o (
    step_agrees old.config old.state new.state (event.Open c) o.h.sends o.h.notes (is_paused old) (is_paused new) is
    (λ d ne. ap (λ (w : Wire). is_past_bound w.output) (o.wires d ∙ wire_changed old.wire c d _ ne)) tt o.happens.stepped
    )

pub loses_linked : (old new : World) (c : ℕ) (hs : List Happening) → IsLinked old → Loses old c hs new → IsLinked new
loses_linked old new c hs k o =
    step_agrees old.config old.state new.state (event.Lose c) o.h.sends o.h.notes (is_paused old) (is_paused new) k
    (λ d ne. ap (λ (w : Wire). is_past_bound w.output) (o.wires d ∙ wire_changed old.wire c d _ ne)) tt o.happens.stepped

delivers_linked : (old new : World) (c : ℕ) (hs : List Happening) → IsLinked old → Delivers old c hs new → IsLinked new
delivers_linked old new c hs k d =
    let p = d.puts in
    puts_linked old new (event.Deliver c) c hs tt k p
    (step_agrees old.config old.state p.mid (event.Deliver c) p.h.sends p.h.notes (is_paused old) (is_paused old) k (λ x ne. refl) refl p.happens.stepped)

pub same_linked : (old new : World) (hs : List Happening) → IsLinked old → (hs ≡ []) × Same old new → IsLinked new
same_linked old new hs k p = linked_same old new k p.1.state (λ d. ap (λ (w : Wire). w.output) (p.1.wires d))

pub pumps_linked : (old new : World) (hs : List Happening) → IsLinked old → Pumps old hs new → IsLinked new
pumps_linked old new hs k (delivers {c = c} d) = delivers_linked old new c hs k d
pumps_linked old new hs k (idles n p) = same_linked old new hs k p

pub new_is_linked : (f : Config) → IsLinked (new_world f)
new_is_linked f = record { running = λ c. refl; paused = λ c conn e. absurd (false≢true (ap Rattle.std.specs.Prelude.is_some e)); limits = λ c conn e. absurd (false≢true (ap Rattle.std.specs.Prelude.is_some e)) }

-- ---- arrivals

works_linked : (c : ℕ) (old new : World) (hs : List Happening) → IsLinked old → Works c old hs new → IsLinked new
works_linked c old new hs k none_more = k
works_linked c old new hs k (one_more {mid = m} {first = f} {rest = r} t more e) = works_linked c m new r (turns_linked old m c f k t) more

works_off_linked : (c : ℕ) (old new : World) (hs : List Happening) → IsLinked old → WorksOff old c hs new → IsLinked new
works_off_linked c old new hs k w = waits_linked w.mid new c (works_linked c old w.mid hs k w.works) w.waits

-- a reload changes no connection
pub reloads_linked : (old new : World) (offered : Config) (os : List Occurrence) → IsLinked old → Reloads old offered os new → IsLinked new
reloads_linked old new offered os k p = elim (state_left p.r p.decided) [
  | inl e ↦ linked_same (record old { state = all_marked old.state }) new (linked_marked old.state (is_paused old) k) (sym p.after ∙ e ∙ ap all_marked p.before) (λ d. ap (λ (w : Wire). w.output) (p.wires d))
  | inr e ↦ linked_same old new k (sym p.after ∙ e ∙ p.before) (λ d. ap (λ (w : Wire). w.output) (p.wires d))
]

pub answers_linked : (old new : World) (a : Arrival Config) (os : List Occurrence) → IsLinked old → Answers old a os new → IsLinked new
answers_linked old new arrival.Open os k (hs, e, p) = from_either (can_open old) (λ o. awaits_linked old new _ hs k o) (same_linked old new hs k) p
answers_linked old new (arrival.Ready n) os k (hs, e, p) = from_either (can_open old) (λ o. opens_linked old new n _ hs k o) (same_linked old new hs k) p
answers_linked old new (arrival.In c bytes) os k (hs, e, p) = from_either (is_over old c) (same_linked old new hs k) (λ w. works_off_linked c (with_heard old c bytes) new hs (hears_linked old c bytes k) w) p
answers_linked old new (arrival.Sent c n) os k (hs, e, p) = from_either (is_gone old c) (same_linked old new hs k) (λ t. works_off_linked c t.mid new t.rest (takes_linked old t.mid c n t.first k t.takes) t.works) p
answers_linked old new arrival.Pump os k (hs, e, p) = pumps_linked old new hs k p
answers_linked old new (arrival.Lose c) os k (hs, e, p) = from_either (is_gone old c) (same_linked old new hs k) (λ o. loses_linked old new c hs k o) p
answers_linked old new (arrival.Reload g) os k p = reloads_linked old new g os k p

pub plays_linked : (old new : World) (arrivals : List (Arrival Config)) (os : List Occurrence) → IsLinked old → Plays old arrivals os new → IsLinked new
plays_linked old new [] os k p = same_linked old new [] k (refl, p.1)
plays_linked old new (a ∷ arrivals) os k (mid, first, rest, e, brings, p) = plays_linked mid new arrivals rest (answers_linked old mid a first k brings) p
