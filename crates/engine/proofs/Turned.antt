-- What is read next of one connection, and one turn of it.
use Rattle.engine.proofs.Names.{◌≡◌, ◌<◌, ◌≤◌, ◌+◌, ◌++◌, inl, inr, ℕ, List, true, false, Option, Some, None, length, refl, sym, ap, subst, ◌∙◌, arith, AllByRecursion, is_some, IfOk, OnErr, IfSome, IsSome, false≢true, Broker, Topology, receiver, spelling, IsSpelled, Session, Move, Stream, Yields, Ends, GoesOn, IsCommand, stays, Reads, again, fresh, fault, SameToCome, still, waits, kept, IsSaid, event_of, is_ended, is_past_bound, Phase, Command, Head, Plain, TooLarge, Send, Event, Note, stream_of, HasFront, ends_front, yields_front, kept_of, kept_for, IsEventMade, IsKeptEvent, HasMore, HasCommand, ComesNext, to_read, Rules, DecidesByPhase, IsAskedBy, PausesOr, WithTurn, Performed, DidEvent, DidNext, ConnectionStays, ConnectionTook, ConnectionWaits, OnIdle, HoldsNone, Connection, Turn}
use Rattle.std.specs.Prelude.{Result, Ok, Err}
use Rattle.model.specs.declared.events.Phase.TheVariants as phase
use Rattle.model.specs.declared.events.Command.TheVariants.{Full}
use Rattle.model.specs.declared.events.Event.TheVariants as event
use Rattle.broker.specs.Turns.{broker_of}
use Rattle.engine.specs.declared.turning.Turn.TheVariants as turn

-- ---- what is read

kept_is : (c : ℕ) (m : Command) → kept_of (Some (event_of c m)) ≡ Some m
kept_is c (Head bytes) = refl
kept_is c (Plain h m) = refl
kept_is c (Full h p content) = refl
kept_is c (TooLarge h) = refl

says_command : (c : ℕ) (m : Command) → IsCommand m → IsSaid (event_of c m)
says_command c (Head bytes) is = tt
says_command c (Plain h m) is = (is, tt)
says_command c (Full h p content) is = is
says_command c (TooLarge h) is = is

pub says_made : (c : ℕ) (e : Event) → IsEventMade c e → IsSaid e
says_made c e is = subst (λ (x : Event). IsSaid x) (sym is.made) (says_command c is.command is.said)

kept_made : (c : ℕ) (e : Event) (is : IsEventMade c e) → kept_of (Some e) ≡ Some is.command
kept_made c e is = ap (λ (x : Event). kept_of (Some x)) is.made ∙ kept_is c is.command

-- a command is kept where it could not be performed
kept_as : (c : ℕ) (m : Command) → kept_for (Some (event_of c m)) ≡ Some (event_of c m)
kept_as c (Head bytes) = refl
kept_as c (Plain h m) = refl
kept_as c (Full h p content) = refl
kept_as c (TooLarge h) = refl

made_kept : (c : ℕ) (e : Event) → IsEventMade c e → kept_for (Some e) ≡ Some e
made_kept c e is = subst (λ (x : Event). kept_for (Some x) ≡ Some x) (sym is.made) (kept_as c is.command)

asks_command : (c : ℕ) (m : Command) → IsAskedBy c (event_of c m)
asks_command c (Head bytes) = refl
asks_command c (Plain h m) = refl
asks_command c (Full h p content) = refl
asks_command c (TooLarge h) = refl

-- a command that was kept is the next
kept_has : (c : ℕ) (e : Event) (broke : Option ℕ) (s : Stream) → IsKeptEvent c (Some e) broke → HasCommand c (Some e) s e broke s
kept_has c e broke s (made, whole) = record {
  made = made;
  whole = whole;
  read = subst (λ (o : Option Command). Reads c o s e s) (sym (kept_made c e made)) (subst (λ (x : Event). Reads c (Some made.command) s x s) (sym made.made) again);
  same = subst (λ (o : Option Command). SameToCome o s o s) (sym (kept_made c e made)) still;
  fewer = subst (λ (o : Option Command). to_read None s < to_read o s) (sym (kept_made c e made)) (omega arith);
}

pub kept_next : (c : ℕ) (k : Option Event) (broke : Option ℕ) (s : Stream) → is_some k ≡ true → IsKeptEvent c k broke → ComesNext c k s k broke s
kept_next c None broke s some is = absurd (false≢true some)
kept_next c (Some e) broke s some is = inl (kept_has c e broke s is)

pub not_some : (k : Option Event) → is_some k ≡ false → k ≡ None
not_some None none = refl
not_some (Some e) none = absurd (false≢true (sym none))

-- and so is one that was read
pub read_has : (c : ℕ) (k : Option Event) (e : Event) (m : Command) (broke : Option ℕ) (s new : Stream) → k ≡ None → e ≡ event_of c m → Yields s m new → IsCommand m → length new.unread + 8 ≤ length s.unread → broke ≡ None
    → HasCommand c k s e broke new
read_has c k e m broke s new none is y said short whole =
    subst (λ (o : Option Event). HasCommand c o s e broke new) (sym none) (subst (λ (x : Event). HasCommand c None s x broke new) (sym is) (record {
      made = record { command = m; made = refl; said = said };
      whole = whole;
      read = fresh y;
      same = subst (λ (o : Option Command). SameToCome None s o new) (sym (kept_is c m)) (kept y);
      fewer = omega (arith, short);
    }))

-- ---- after a fault a connection is over

over_after : (p : Phase) (r : Rules) (b : Broker) (s : Session) (c code : ℕ) (sends : List Send) (notes : List Note) (new_b : Broker) (new_s : Session)
    → s.phase ≡ p → DecidesByPhase c p r b s (event.Fault c code) sends notes new_b new_s → is_ended new_s.phase ≡ true
over_after phase.Header r b s c code sends notes new_b new_s at by = ap (λ (z : Move). is_ended z.next.phase) by.answered
over_after phase.Start r b s c code sends notes new_b new_s at by = ap (λ (z : Move). is_ended z.next.phase) by.answered
over_after phase.Tune r b s c code sends notes new_b new_s at by = ap (λ (z : Move). is_ended z.next.phase) by.answered
over_after phase.Open r b s c code sends notes new_b new_s at by = ap (λ (z : Move). is_ended z.next.phase) by.answered
over_after phase.Running r b s c code sends notes new_b new_s at by = ap (λ (z : Session). is_ended z.phase) by.session
over_after phase.Closing r b s c code sends notes new_b new_s at by = ap (λ (z : Move). is_ended z.next.phase) by.answered
over_after phase.Over r b s c code sends notes new_b new_s at by = ap (λ (z : Move). is_ended z.next.phase) by.answered ∙ ap is_ended at

-- ---- the turns

-- the connection that was read from: it says and keeps something else, and all else is as before
pub record IsRead (old mid : Connection) : Type 0 where
  pub number : mid.number ≡ old.number
  pub session : mid.session ≡ old.session
  pub output : mid.output.bytes ≡ old.output.bytes

performed_of : (t : Rules) (b new_b : Broker) (old mid new : Connection) (e : Event) (notes : List Note) → IsRead old mid
    → Performed t b mid.number mid.session mid.output.bytes e notes new_b new.session new.output.bytes
    → Performed t b old.number old.session old.output.bytes e notes new_b new.session new.output.bytes
performed_of t b new_b old mid new e notes read p =
    subst (λ (c : ℕ). Performed t b c old.session old.output.bytes e notes new_b new.session new.output.bytes) read.number
    (subst (λ (s : Session). Performed t b mid.number s old.output.bytes e notes new_b new.session new.output.bytes) read.session
    (subst (λ (o : List ℕ). Performed t b mid.number mid.session o e notes new_b new.session new.output.bytes) read.output p))

-- what the event decided was put out
pub performed_put : (r : Rules) (b mid new_b : Broker) (c : ℕ) (s new_s : Session) (output new_output : List ℕ) (e : Event) (notes : List Note) (given sends : List Send) (max : ℕ) (t : Topology)
    → given ≡ sends → max ≡ s.frame_max → max ≤ 131072 → DecidesByPhase c s.phase r b s e sends notes mid new_s
    → AllByRecursion (λ x. receiver x ≡ c) given → AllByRecursion (IsSpelled max) given → new_output ≡ output ++ spelling max given → t ≡ r.topology → PausesOr t c false (is_past_bound new_output) mid new_b
    → Performed r b c s output e notes new_b new_s new_output
performed_put r b mid new_b c s new_s output new_output e notes given sends max t is limit bounded decides own spelled put topology pauses = record {
  sends = sends;
  mid = mid;
  decides = decides;
  own = subst (λ (z : List Send). AllByRecursion (λ x. receiver x ≡ c) z) is own;
  bounded = subst (λ (n : ℕ). n ≤ 131072) limit bounded;
  spelled = subst (λ (z : List Send). AllByRecursion (IsSpelled s.frame_max) z) is (subst (λ (n : ℕ). AllByRecursion (IsSpelled n) given) limit spelled);
  put = subst (λ (z : List Send). new_output ≡ output ++ spelling s.frame_max z) is (subst (λ (n : ℕ). new_output ≡ output ++ spelling n given) limit put);
  pauses = subst (λ (z : Topology). PausesOr z c false (is_past_bound new_output) mid new_b) topology pauses;
}

did_command : (t : Rules) (b new_b : Broker) (old mid new : Connection) (e : Event) (what : Turn) → is_ended old.session.phase ≡ false → is_past_bound old.output.bytes ≡ false → IsRead old mid
    → HasCommand old.number old.kept (stream_of old.stream) e mid.stream.fault (stream_of mid.stream) → DidEvent t b mid e what new_b new → ConnectionTook t b old what new_b new
did_command t b new_b old mid new e (turn.Did notes) open_still below read h did = (
  open_still,
  below,
  record {
    event = e;
    next = stream_of mid.stream;
    read = h.read;
    said = says_made old.number e h.made;
    performed = performed_of t b new_b old mid new e notes.items read did.performed;
    number = did.number ∙ read.number;
    none_kept = did.none_kept;
    follows = inl (did.stream h.whole);
    fewer = inl (subst (λ (s : Stream). to_read None s < to_read (kept_of old.kept) (stream_of old.stream)) (sym (did.stream h.whole)) h.fewer);
  },
)
did_command t b new_b old mid new e turn.Idle open_still below read h did = absurd did
did_command t b new_b old mid new e turn.Paused open_still below read h did = absurd did
did_command t b new_b old mid new e turn.Over open_still below read h did = absurd did

did_fault : (t : Rules) (b new_b : Broker) (old mid new : Connection) (code : ℕ) (what : Turn) → is_ended old.session.phase ≡ false → is_past_bound old.output.bytes ≡ false → IsRead old mid
    → old.kept ≡ None → Ends (stream_of old.stream) (Some code) → DidEvent t b mid (event.Fault mid.number code) what new_b new → ConnectionTook t b old what new_b new
did_fault t b new_b old mid new code (turn.Did notes) open_still below read none ends did =
    let over = over_after mid.session.phase t b mid.session mid.number code did.performed.sends notes.items did.performed.mid new.session refl did.performed.decides in (
      open_still,
      below,
      record {
        event = event.Fault mid.number code;
        next = stream_of old.stream;
        read = subst (λ (k : Option Event). Reads old.number (kept_of k) (stream_of old.stream) (event.Fault mid.number code) (stream_of old.stream)) (sym none)
            (subst (λ (c : ℕ). Reads old.number None (stream_of old.stream) (event.Fault c code) (stream_of old.stream)) (sym read.number) (fault ends));
        said = tt;
        performed = performed_of t b new_b old mid new (event.Fault mid.number code) notes.items read did.performed;
        number = did.number ∙ read.number;
        none_kept = did.none_kept;
        follows = inr over;
        fewer = inr over;
      },
    )
did_fault t b new_b old mid new code turn.Idle open_still below read none ends did = absurd did
did_fault t b new_b old mid new code turn.Paused open_still below read none ends did = absurd did
did_fault t b new_b old mid new code turn.Over open_still below read none ends did = absurd did

pub coming_on : (k left : Option Event) (s new : Stream) → k ≡ None → left ≡ None → GoesOn s new → SameToCome (kept_of k) s (kept_of left) new
coming_on k left s new none gone on = subst (λ (o : Option Event). SameToCome (kept_of o) s (kept_of left) new) (sym none) (subst (λ (o : Option Event). SameToCome None s (kept_of o) new) (sym gone) (waits on))

-- what comes next was performed
pub did_next : (t : Rules) (b new_b : Broker) (old mid new : Connection) (e : Event) (what : Turn) → is_ended old.session.phase ≡ false → is_past_bound old.output.bytes ≡ false → IsRead old mid
    → ComesNext old.number old.kept (stream_of old.stream) (Some e) mid.stream.fault (stream_of mid.stream) → DidEvent t b mid e what new_b new → ConnectionTook t b old what new_b new
did_next t b new_b old mid new e what open_still below read (inl h) did = did_command t b new_b old mid new e what open_still below read h did
did_next t b new_b old mid new e what open_still below read (inr h) did =
    did_fault t b new_b old mid new h.code what open_still below read h.none_kept h.ends
    (subst (λ (x : Event). DidEvent t b mid x what new_b new) (h.is ∙ ap (λ (c : ℕ). event.Fault c h.code) (sym read.number)) did)

-- the same is still to come
coming_next : (c : ℕ) (k : Option Event) (s : Stream) (left : Option Event) (broke : Option ℕ) (new : Stream) → ComesNext c k s left broke new → SameToCome (kept_of k) s (kept_of (kept_for left)) new
coming_next c k s (Some e) broke new (inl h) = subst (λ (o : Option Event). SameToCome (kept_of k) s (kept_of o) new) (sym (made_kept c e h.made)) h.same
coming_next c k s (Some e) broke new (inr h) = coming_on k (kept_for (Some e)) s new h.none_kept (ap (λ (x : Event). kept_for (Some x)) h.is) h.on
coming_next c k s None broke new (none, ends, on) = coming_on k None s new none refl on

keeps_next : (c : ℕ) (k : Option Event) (s : Stream) (left : Option Event) (broke : Option ℕ) (new : Stream) → ComesNext c k s left broke new → IsKeptEvent c (kept_for left) broke
keeps_next c k s (Some e) broke new (inl h) = subst (λ (o : Option Event). IsKeptEvent c o broke) (sym (made_kept c e h.made)) (h.made, h.whole)
keeps_next c k s (Some e) broke new (inr h) = subst (λ (o : Option Event). IsKeptEvent c o broke) (sym (ap (λ (x : Event). kept_for (Some x)) h.is)) tt
keeps_next c k s None broke new h = tt

-- it is asked for by the connection, and has a spelling
pub next_known : (c : ℕ) (k : Option Event) (s : Stream) (left : Option Event) (broke : Option ℕ) (new : Stream) → ComesNext c k s left broke new → IfSome left (λ e. IsAskedBy c e × IsSaid e)
next_known c k s (Some e) broke new (inl h) = (subst (λ (x : Event). IsAskedBy c x) (sym h.made.made) (asks_command c h.made.command), says_made c e h.made)
next_known c k s (Some e) broke new (inr h) = (subst (λ (x : Event). IsAskedBy c x) (sym h.is) refl, subst (λ (x : Event). IsSaid x) (sym h.is) tt)
next_known c k s None broke new h = tt

-- and read, with what follows it
pub next_read : (c : ℕ) (k : Option Event) (s : Stream) (e : Event) (broke : Option ℕ) (new : Stream) → ComesNext c k s (Some e) broke new → (next : Stream) × Reads c (kept_of k) s e next
next_read c k s e broke new (inl h) = (new, h.read)
next_read c k s e broke new (inr h) = (
  s,
  subst (λ (x : Event). Reads c (kept_of k) s x s) (sym h.is) (subst (λ (o : Option Event). Reads c (kept_of o) s (event.Fault c h.code) s) (sym h.none_kept) (fault h.ends)),
)

-- ---- what is read was there

pub reads_more : {c : ℕ} {k : Option Command} {s next : Stream} {e : Event} → Reads c k s e next → HasMore k s
reads_more again = tt
reads_more (fresh y) = yields_front y
reads_more (fault e) = ends_front e

pub front_more : (k : Option Event) (s : Stream) → k ≡ None → HasFront s → HasMore (kept_of k) s
front_more k s none front = subst (λ (o : Option Event). HasMore (kept_of o) s) (sym none) front

pub reads_next : (c : ℕ) (k : Option Event) (s : Stream) (left : Option Event) (broke : Option ℕ) (new : Stream) → IsSome left → ComesNext c k s left broke new → HasMore (kept_of k) s
reads_next c k s (Some e) broke new some h = reads_more (next_read c k s e broke new h).1
reads_next c k s None broke new some h = absurd (false≢true some)

-- ---- what a turn leaves

-- nothing is kept after what was performed
pub did_keeps : (t : Rules) (b new_b : Broker) (mid new : Connection) (e : Event) (what : Turn) → DidEvent t b mid e what new_b new → IsKeptEvent new.number new.kept new.stream.fault × (new.number ≡ mid.number)
did_keeps t b new_b mid new e (turn.Did notes) did = (subst (λ (k : Option Event). IsKeptEvent new.number k new.stream.fault) (sym did.none_kept) tt, did.number)
did_keeps t b new_b mid new e turn.Idle did = absurd did
did_keeps t b new_b mid new e turn.Paused did = absurd did
did_keeps t b new_b mid new e turn.Over did = absurd did

pub did_something : (t : Rules) (b new_b : Broker) (mid new : Connection) (e : Event) (what : Turn) → DidEvent t b mid e what new_b new → OnIdle what (HoldsNone new.output)
did_something t b new_b mid new e (turn.Did notes) did = tt
did_something t b new_b mid new e turn.Idle did = absurd did
did_something t b new_b mid new e turn.Paused did = absurd did
did_something t b new_b mid new e turn.Over did = absurd did

-- where it stays, it is as it was read
read_stays : (old mid new : Connection) → IsRead old mid → ConnectionStays mid new → IsRead old new
read_stays old mid new read was = record {
  number = ap (λ (z : Connection). z.number) was.rest ∙ read.number;
  session = ap (λ (z : Connection). z.session) was.rest ∙ read.session;
  output = was.bytes ∙ read.output;
}

-- what is kept then is a command
still_kept : (old mid new : Connection) → IsRead old mid → ComesNext old.number old.kept (stream_of old.stream) mid.kept mid.stream.fault (stream_of mid.stream) → ConnectionStays mid new
    → IsKeptEvent new.number new.kept new.stream.fault
still_kept old mid new read h was =
    subst (λ (z : Connection). IsKeptEvent z.number z.kept z.stream.fault) (sym was.rest)
    (subst (λ (c : ℕ). IsKeptEvent c (kept_for mid.kept) mid.stream.fault) (sym read.number) (keeps_next old.number old.kept (stream_of old.stream) mid.kept mid.stream.fault (stream_of mid.stream) h))

-- and the same is still to come
pub waits_next : (b new_b : Broker) (old mid new : Connection) → IsRead old mid → ComesNext old.number old.kept (stream_of old.stream) mid.kept mid.stream.fault (stream_of mid.stream)
    → new_b ≡ b → ConnectionStays mid new → ConnectionWaits b old new_b new
waits_next b new_b old mid new read h broker was =
    let is = read_stays old mid new read was in
    record {
      broker = broker;
      number = is.number;
      session = is.session;
      output = is.output;
      coming = subst (λ (z : Connection). SameToCome (kept_of old.kept) (stream_of old.stream) (kept_of z.kept) (stream_of z.stream)) (sym was.rest)
          (coming_next old.number old.kept (stream_of old.stream) mid.kept mid.stream.fault (stream_of mid.stream) h);
    }

-- nothing was read
after_nothing : (r : Rules) (b : Broker) (old mid new : Connection) → is_ended old.session.phase ≡ false → IsRead old mid
    → ComesNext old.number old.kept (stream_of old.stream) mid.kept mid.stream.fault (stream_of mid.stream) → mid.kept ≡ None → ConnectionStays mid new → ConnectionTook r b old turn.Idle b new
after_nothing r b old mid new open_still read h none was =
    let found = subst (λ (k : Option Event). ComesNext old.number old.kept (stream_of old.stream) k mid.stream.fault (stream_of mid.stream)) none h in
    (open_still, record { waits = waits_next b b old mid new read h refl was; none_kept = found.0; ends = found.1 })

-- what was read was performed, or nothing was
pub took_next : (r : Rules) (b new_b : WithTurn) (old mid new : Connection) (left : Option Event) (what : Turn) → is_ended old.session.phase ≡ false → is_past_bound old.output.bytes ≡ false → IsRead old mid
    → mid.kept ≡ left → ComesNext old.number old.kept (stream_of old.stream) mid.kept mid.stream.fault (stream_of mid.stream) → DidNext r b mid left what new_b new
    → ConnectionTook r (broker_of b) old what (broker_of new_b) new
took_next r b new_b old mid new (Some e) what open_still below read is h did =
    did_next r (broker_of b) (broker_of new_b) old mid new e what open_still below read
    (subst (λ (k : Option Event). ComesNext old.number old.kept (stream_of old.stream) k mid.stream.fault (stream_of mid.stream)) is h) did.0
took_next r b new_b old mid new None what open_still below read is h did =
    subst (λ (t : Turn). ConnectionTook r (broker_of b) old t (broker_of new_b) new) (sym did.idle)
    (subst (λ (x : WithTurn). ConnectionTook r (broker_of b) old turn.Idle (broker_of x) new) (sym did.broker) (after_nothing r (broker_of b) old mid new open_still read h is did.connection))

-- where nothing was, its output holds no storage
pub idle_next : (r : Rules) (b new_b : WithTurn) (mid new : Connection) (left : Option Event) (what : Turn) → DidNext r b mid left what new_b new → OnIdle what (HoldsNone new.output)
idle_next r b new_b mid new (Some e) what did = did_something r (broker_of b) (broker_of new_b) mid new e what did.0
idle_next r b new_b mid new None what did = subst (λ (t : Turn). OnIdle t (HoldsNone new.output)) (sym did.idle) did.connection.none

-- what is kept after a turn is a command of the connection
pub keeps_after : {E : Type 0} (result : Result Turn E) (r : Rules) (b new_b : WithTurn) (old mid new : Connection) (left : Option Event) → IsRead old mid → mid.kept ≡ left
    → ComesNext old.number old.kept (stream_of old.stream) mid.kept mid.stream.fault (stream_of mid.stream)
    → IfOk result (λ t. DidNext r b mid left t new_b new) → OnErr result (ConnectionStays mid new) → IsKeptEvent new.number new.kept new.stream.fault × (new.number ≡ old.number)
keeps_after (Ok what) r b new_b old mid new (Some e) read is h did was = let kept = did_keeps r (broker_of b) (broker_of new_b) mid new e what did.0 in (kept.0, kept.1 ∙ read.number)
keeps_after (Ok what) r b new_b old mid new None read is h did was = (still_kept old mid new read h did.connection, (read_stays old mid new read did.connection).number)
keeps_after (Err x) r b new_b old mid new left read is h did was = (still_kept old mid new read h was, (read_stays old mid new read was).number)

pub same_coming : (k : Option Command) (s : Stream) → SameToCome k s k s
same_coming None s = waits stays
same_coming (Some m) s = still
