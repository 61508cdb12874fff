-- Whatever arrives, a connection is in Header exactly while its first eight bytes are not performed.
use Rattle.laws.proofs.Names.{◌≡◌, ◌≢◌, ℕ, List, [], ◌∷◌, Bool, true, false, cond, refl, sym, ap, subst, ◌∙◌, inl, inr, None, ◌==◌, eqb-true, eqb-false, false≢true, with_one, Stream, Yields, GoesOn, stays, Ends, heard, opened_stream, running_stream, new_session, Session, running_session, no_session, Config, State, Step, Happening, Occurrence, World, Wire, new_world, new_wire, wire_after, under_session, is_ended, is_over, is_gone, can_open, event_of, Reads, again, fresh, fault, SameToCome, still, waits, Turns, Waits, Works, none_more, one_more, WorksOff, TakesOutput, Delivers, Pumps, delivers, idles, Reloads, Answers, Plays, with_heard, Head, Plain, Full, Send, Event, Arrival, Note, event_connection, is_head, is_header, is_first, AreToCome, ReadsByPhase, OpeningsReadByPhase}
use Rattle.std.proofs.Common.{◌+◌, Option, Some}
use Rattle.std.specs.Prelude.{if◌then◌else◌}
use Rattle.model.specs.Commands.{goes as read_on}
use Rattle.model.specs.Arrivals.{kept}
use Rattle.model.specs.declared.events.Command.{Command}
use Rattle.model.specs.declared.events.Command.TheVariants.{TooLarge}
use Rattle.model.specs.declared.events.Arrival.TheVariants as arrival
use Rattle.laws.proofs.Counts.{from_either}
use Rattle.laws.proofs.Streams.{head_read, head_awaited, frames_read}
use Rattle.laws.proofs.View.{is_read, goes, Performed, Answered}
use Rattle.laws.proofs.Linked.{with_here}
use Rattle.laws.proofs.Reloading.{all_marked, state_left}
use Rattle.laws.proofs.Spoken.{read_no_header, read_is, settled_sessions}

-- ---- what is read

goes_still : {s new : Stream} → GoesOn s new → new.is_new ≡ s.is_new
goes_still stays = refl
goes_still (read_on t rest) = goes_still rest ∙ ap (λ (z : Stream). z.is_new) t.left

-- the next command is the first eight bytes exactly where they are awaited
yields_head : (v : Bool) (s next : Stream) (m : Command) → s.is_new ≡ v → Yields s m next → (is_head m ≡ v) × (next.is_new ≡ false)
yields_head true s next m new y = let h = head_read new y in (ap is_head h.is, ap (λ (z : Stream). z.is_new) h.takes.left)
yields_head false s next m new y = let h = frames_read new y in (h.framed, h.begun)

same_still : (v : Bool) (k k' : Option Command) (s s' : Stream) → SameToCome k s k' s' → AreToCome v k s → AreToCome v k' s'
same_still v k k' s s' still a = a
same_still v k k' s s' (waits g) a = goes_still g ∙ a
same_still v k k' s s' (kept y) a = yields_head v _ _ _ a y

event_first : (c : ℕ) (m : Command) → is_first (event_of c m) ≡ is_head m
event_first c (Head bytes) = refl
event_first c (Plain h m) = refl
event_first c (Full h p content) = refl
event_first c (TooLarge h) = refl

-- a fault is no fault of the first eight bytes
fault_framed : (v : Bool) (s : Stream) (code : ℕ) → s.is_new ≡ v → Ends s (Some code) → false ≡ v
fault_framed true s code new e = absurd (let none : Some code ≡ None = (head_awaited new e).0 in cc)
fault_framed false s code new e = refl

-- the next event performs them exactly where they are awaited, and frames are awaited after it
reads_first : (v : Bool) (c : ℕ) (k : Option Command) (s next : Stream) (e : Event) → Reads c k s e next → AreToCome v k s → (is_first e ≡ v) × (next.is_new ≡ false)
reads_first v c k s next e (again {m = m}) a = (event_first c m ∙ a.0, a.1)
reads_first v c k s next e (fresh {m = m} y) a = let h = yields_head v _ _ m a y in (event_first c m ∙ h.0, h.1)
reads_first v c k s next e (fault {code = code} y) a = let framed : false ≡ v = fault_framed v _ code a y in (framed, a ∙ sym framed)

-- ---- one step

step_no_header : (f : Config) (old new : State) (e : Event) (sends : List Send) (notes : List Note) → is_read e ≡ true → Step f old e sends notes new
    → is_first e ≡ is_header (old.session (event_connection e)).phase → is_header (new.session (event_connection e)).phase ≡ false
step_no_header f old new e sends notes read step first = elim (goes f old new sends notes e step) [ inl p ↦ performed p | inr a ↦ answered a ]
  where
    c : ℕ
    c = event_connection e

    performed : Performed f old e sends notes new → is_header (new.session c).phase ≡ false
    performed p = ap (λ (s : Session). is_header s.phase) (p.sessions c ∙ with_here old.session c _) ∙ read_no_header (old.session c) e sends read

    answered : Answered old e sends notes new → is_header (new.session c).phase ≡ false
    answered a = ap (λ (s : Session). is_header s.phase) (a.moves.session c ∙ with_here old.session c _) ∙ by (is_header a.move.next.phase) refl
      where
        by : (v : Bool) → is_header a.move.next.phase ≡ v → v ≡ false
        by true h = let was = a.header h in absurd (false≢true (sym was.1 ∙ first ∙ was.0))
        by false h = refl

-- ---- whole worlds

-- what is still to come of one connection
abbrev OfWire : Bool → Wire → Type 0
OfWire said w = AreToCome said w.kept w.stream

abbrev All : World → Type 0
All w = (c : ℕ) → ReadsByPhase w c

wire_as : (said now : Bool) (w w' : Wire) → now ≡ said → w' ≡ w → OfWire said w → OfWire now w'
wire_as said now w w' e f a = subst (λ (b : Bool). OfWire b w') (sym e) (subst (OfWire said) (sym f) a)

session_as : (s s' : Session) → s' ≡ s → is_header s'.phase ≡ is_header s.phase
session_as s s' e = ap (λ (z : Session). is_header z.phase) e

same_all : (old new : World) → All old → new.state ≡ old.state → ((d : ℕ) → new.wire d ≡ old.wire d) → All new
same_all old new a state wires c = wire_as _ _ (old.wire c) (new.wire c) (ap (λ (z : State). is_header (z.session c).phase) state) (wires c) (a c)

-- one connection changed
one_all : (old new : World) (c : ℕ) (after : Session) (w : Wire) → All old → ((d : ℕ) → new.state.session d ≡ with_one old.state.session c after d) → ((d : ℕ) → new.wire d ≡ with_one old.wire c w d)
    → OfWire (is_header after.phase) w → All new
one_all old new c after w a sessions wires here d =
    wire_as _ _ (with_one old.wire c w d) (new.wire d) (session_as (with_one old.state.session c after d) (new.state.session d) (sessions d)) (wires d) (by (d == c))
  where
    by : (v : Bool) → OfWire (is_header (cond v after (old.state.session d)).phase) (cond v w (old.wire d))
    by true = here
    by false = a d

after_framed : (said : Bool) (s : Session) (next : Stream) (output : List ℕ) → said ≡ false → next.is_new ≡ false → OfWire said (wire_after s next output)
after_framed said s next output framed new = by (is_ended s.phase)
  where
    by : (v : Bool) → OfWire said (if v then record new_wire { output = output } else record { kept = None; stream = under_session s next; output = output })
    by true = sym framed
    by false = new ∙ sym framed

turn_all : (c : ℕ) (old new : World) (hs : List Happening) → Turns old c hs new → All old → All new
turn_all c old new hs t a d = by (d == c) refl
  where
    read : (is_first t.event ≡ is_header (old.state.session c).phase) × (t.next.is_new ≡ false)
    read = reads_first (is_header (old.state.session c).phase) c _ _ t.next t.event t.read (a c)

    of_it : event_connection t.event ≡ c
    of_it = (read_is c _ _ _ t.event t.read).0

    -- the first eight bytes are not awaited after the turn
    mid : is_header (t.puts.mid.session c).phase ≡ false
    mid =
        subst (λ (x : ℕ). is_first t.event ≡ is_header (old.state.session x).phase → is_header (t.puts.mid.session x).phase ≡ false) of_it
        (step_no_header old.config old.state t.puts.mid t.event t.puts.h.sends t.puts.h.notes (read_is c _ _ _ t.event t.read).1 t.puts.happens.stepped) read.0

    after : is_header (new.state.session c).phase ≡ false
    after = session_as (t.puts.mid.session c) (new.state.session c) (settled_sessions old.config t.puts.mid new.state c _ _ t.puts.rest t.puts.pauses c) ∙ mid

    here : ReadsByPhase new c
    here = subst (OfWire (is_header (new.state.session c).phase)) (sym t.wire) (after_framed _ (new.state.session c) t.next (new.wire c).output after read.1)

    by : (v : Bool) → (d == c) ≡ v → ReadsByPhase new d
    by true e = subst (ReadsByPhase new) (sym (eqb-true d c e)) here
    by false e = let ne : d ≢ c = eqb-false d c e in wire_as _ _ (old.wire d) (new.wire d) (session_as (old.state.session d) (new.state.session d) (t.puts.rests d ne)) (t.puts.others d ne) (a d)

waits_all : (c : ℕ) (old new : World) → Waits old c new → All old → All new
waits_all c old new v a d = subst (λ (b : Bool). AreToCome b (new.wire d).kept (new.wire d).stream) (ap (λ (z : State). is_header (z.session d).phase) (sym v.state)) (by (d == c) refl)
  where
    by : (b : Bool) → (d == c) ≡ b → OfWire (is_header (old.state.session d).phase) (new.wire d)
    by true e =
        subst (λ (x : ℕ). OfWire (is_header (old.state.session x).phase) (new.wire x)) (sym (eqb-true d c e))
        (same_still (is_header (old.state.session c).phase) (old.wire c).kept (new.wire c).kept (old.wire c).stream (new.wire c).stream v.coming (a c))
    by false e = subst (OfWire (is_header (old.state.session d).phase)) (sym (v.others d (eqb-false d c e))) (a d)

heard_wire : (said : Bool) (k : Option Command) (s s' : Stream) → s'.is_new ≡ s.is_new → AreToCome said k s → AreToCome said k s'
heard_wire said None s s' e a = e ∙ a
heard_wire said (Some m) s s' e a = (a.0, e ∙ a.1)

heard_all : (w : World) (c : ℕ) (bytes : List ℕ) → All w → All (with_heard w c bytes)
heard_all w c bytes a d = by (d == c) refl
  where
    by : (v : Bool) → (d == c) ≡ v → OfWire (is_header (w.state.session d).phase) (cond v (record (w.wire c) { stream = heard (w.wire c).stream bytes }) (w.wire d))
    by true e =
        subst (λ (x : ℕ). AreToCome (is_header (w.state.session d).phase) (w.wire x).kept (heard (w.wire x).stream bytes)) (eqb-true d c e)
        (heard_wire (is_header (w.state.session d).phase) (w.wire d).kept (w.wire d).stream (heard (w.wire d).stream bytes) refl (a d))
    by false e = a d

takes_all : (c n : ℕ) (old new : World) (hs : List Happening) → TakesOutput old c n hs new → All old → All new
takes_all c n old new hs t a d =
    wire_as _ _ _ (new.wire d) (session_as (old.state.session d) (new.state.session d) (settled_sessions old.config old.state new.state c _ _ hs t.pauses d)) (t.wires d) (by (d == c) refl)
  where
    by : (v : Bool) → (d == c) ≡ v → OfWire (is_header (old.state.session d).phase) (cond v (record (old.wire c) { output = Rattle.std.specs.Prelude.drop n (old.wire c).output }) (old.wire d))
    by true e = subst (λ (x : ℕ). AreToCome (is_header (old.state.session d).phase) (old.wire x).kept (old.wire x).stream) (eqb-true d c e) (a d)
    by false e = a d

-- a delivery changes neither what is still to come nor the phase
delivers_all : (c : ℕ) (old new : World) (hs : List Happening) → Delivers old c hs new → All old → All new
delivers_all c old new hs t a d = by (d == c) refl
  where
    session : (x : ℕ) → new.state.session x ≡ old.state.session x
    session x = settled_sessions old.config t.puts.mid new.state c _ _ t.puts.rest t.puts.pauses x ∙ t.puts.happens.stepped.session x

    here : ReadsByPhase new c
    here = subst (OfWire (is_header (new.state.session c).phase)) (sym t.wire) (subst (λ (b : Bool). AreToCome b (old.wire c).kept (old.wire c).stream) (sym (session_as (old.state.session c) (new.state.session c) (session c))) (a c))

    by : (v : Bool) → (d == c) ≡ v → ReadsByPhase new d
    by true e = subst (ReadsByPhase new) (sym (eqb-true d c e)) here
    by false e = wire_as _ _ (old.wire d) (new.wire d) (session_as (old.state.session d) (new.state.session d) (session d)) (t.puts.others d (eqb-false d c e)) (a d)

pumps_all : (old new : World) (hs : List Happening) → Pumps old hs new → All old → All new
pumps_all old new hs (delivers {c = c} t) a = delivers_all c old new hs t a
pumps_all old new hs (idles n s) a = same_all old new a s.1.state s.1.wires

-- ---- arrivals

works_all : (c : ℕ) (old new : World) (hs : List Happening) → Works c old hs new → All old → All new
works_all c old new hs none_more a = a
works_all c old new hs (one_more {mid = m} {first = f} {rest = r} t more e) a = works_all c m new r more (turn_all c old m f t a)

works_off_all : (c : ℕ) (old new : World) (hs : List Happening) → WorksOff old c hs new → All old → All new
works_off_all c old new hs w a = waits_all c w.mid new w.waits (works_all c old w.mid hs w.works a)

-- a reload changes neither what is to come nor a phase
reload_all : (old new : World) (offered : Config) (os : List Occurrence) → Reloads old offered os new → All old → All new
reload_all old new offered os p a d = wire_as _ _ (old.wire d) (new.wire d) (session_as (old.state.session d) (new.state.session d) session) (p.wires d) (a d)
  where
    session : new.state.session d ≡ old.state.session d
    session = elim (state_left p.r p.decided) [
      | inl e ↦ ap (λ (z : State). z.session d) (sym p.after ∙ e ∙ ap all_marked p.before)
      | inr e ↦ ap (λ (z : State). z.session d) (sym p.after ∙ e ∙ p.before)
    ]

answer_all : (old new : World) (t : Arrival Config) (os : List Occurrence) → Answers old t os new → All old → All new
answer_all old new arrival.Open os (hs, e, p) a =
    from_either (can_open old) (λ o. one_all old new (old.given + 1) new_session (record new_wire { stream = opened_stream }) a o.happens.stepped.steps.session o.wires refl) (λ s. same_all old new a s.1.state s.1.wires) p
answer_all old new (arrival.Ready k) os (hs, e, p) a =
    from_either (can_open old) (λ o. one_all old new (old.given + 1) (record running_session { channel_max = 255 }) (record new_wire { stream = running_stream }) a o.happens.stepped.session o.wires refl) (λ s. same_all old new a s.1.state s.1.wires) p
answer_all old new (arrival.In c bytes) os (hs, e, p) a = from_either (is_over old c) (λ s. same_all old new a s.1.state s.1.wires) (λ w. works_off_all c (with_heard old c bytes) new hs w (heard_all old c bytes a)) p
answer_all old new (arrival.Sent c n) os (hs, e, p) a = from_either (is_gone old c) (λ s. same_all old new a s.1.state s.1.wires) (λ t. works_off_all c t.mid new t.rest t.works (takes_all c n old t.mid t.first t.takes a)) p
answer_all old new arrival.Pump os (hs, e, p) a = pumps_all old new hs p a
answer_all old new (arrival.Lose c) os (hs, e, p) a = from_either (is_gone old c) (λ s. same_all old new a s.1.state s.1.wires) (λ o. one_all old new c no_session new_wire a o.happens.stepped.session o.wires refl) p
answer_all old new (arrival.Reload g) os p a = reload_all old new g os p a

play_all : (old new : World) (arrivals : List (Arrival Config)) (os : List Occurrence) → Plays old arrivals os new → All old → All new
play_all old new [] os p a = same_all old new a p.1.state p.1.wires
play_all old new (t ∷ arrivals) os (mid, first, rest, e, brings, p) a = play_all mid new arrivals rest p (answer_all old mid t first brings a)

pub read_by_phase : OpeningsReadByPhase
read_by_phase f arrivals os w p = play_all (new_world f) w arrivals os p (λ c. refl)
