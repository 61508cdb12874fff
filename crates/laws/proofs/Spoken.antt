-- Whatever arrives, what a connection was sent so far is as its phase says: commands, or the protocol header alone.
use Rattle.laws.proofs.Names.{◌≡◌, ◌≢◌, ℕ, List, [], ◌∷◌, ◌++◌, Bool, true, false, cond, refl, sym, ap, subst, ◌∙◌, ◌⊎◌, inl, inr, append-nil, append_assoc, arith, ◌==◌, ◌&&◌, is_some, AllByRecursion, flat_map-append, filter-append, eq-eqb, eqb-true, eqb-false, ne_eqb, false≢true, with_one, Stream, new_session, Session, running_session, no_session, is_running, after_method, after_sends, to_phase, Config, State, Step, Happening, sends_of, Occurrence, Of_event, events_of, receiver, sends_to, World, new_world, is_ended, is_over, is_paused, is_gone, can_open, event_of, Reads, again, fresh, fault, Pauses, Puts, Turns, Waits, Works, none_more, one_more, WorksOff, Same, TakesOutput, Opens, Loses, Reloads, Answers, Plays, with_heard, Delivers, Pumps, delivers, idles, Method, ConnectionClose, ConnectionCloseOk, Head, Plain, Full, Send, Phase, Event, Arrival, Note, event_connection, is_header}
use Rattle.std.proofs.Common.{◌<◌, ◌+◌, map, Option}
use Rattle.std.specs.Prelude.{filter, not}
use Rattle.model.specs.declared.events.Command.{Command}
use Rattle.model.specs.declared.events.Command.TheVariants.{TooLarge}
use Rattle.model.specs.declared.events.Send.TheVariants as send
use Rattle.model.specs.declared.events.Phase.TheVariants as phase
use Rattle.model.specs.declared.events.Event.TheVariants as event
use Rattle.model.specs.declared.events.Arrival.TheVariants as arrival
use Rattle.laws.proofs.Counts.{all-append, from_either}
use Rattle.laws.proofs.Speaking.{IsCommandSend, AreCommandSends, Spoken, spoken_commands, spoken_over, spoken_on}
use Rattle.laws.proofs.Deeds.{acted}
use Rattle.laws.proofs.View.{session_after, is_read, goes, acted_commands, Performed, Answered}
use Rattle.laws.proofs.Linked.{with_here}
use Rattle.laws.proofs.Reloading.{all_marked, state_left}
use Rattle.laws.proofs.Histories.{events-mapped, events-append}
use Rattle.laws.proofs.Linking.{IsLinked, new_is_linked, answers_linked}

-- ---- what is sent to one connection

-- all that these events sent to connection c, in order
abbrev pub sent_to : ℕ → List Happening → List Send
sent_to c hs = sends_to c (sends_of hs)

sent_append : (c : ℕ) (hs ks : List Happening) → sent_to c (hs ++ ks) ≡ sent_to c hs ++ sent_to c ks
sent_append c hs ks =
    ap (λ (z : List Send). filter (λ s. receiver s == c) z) (flat_map-append (λ (h : Happening). h.sends) hs ks)
    ∙ filter-append (λ s. receiver s == c) (sends_of hs) (sends_of ks)

pub own_sends : (c : ℕ) (sends : List Send) → AllByRecursion (λ s. receiver s ≡ c) sends → sends_to c sends ≡ sends
own_sends c [] a = refl
own_sends c (s ∷ sends) a = ap (λ (b : Bool). cond b (s ∷ sends_to c sends) (sends_to c sends)) (eq-eqb (receiver s) c a.0) ∙ ap (λ (z : List Send). s ∷ z) (own_sends c sends a.1)

other_sends : (c d : ℕ) (sends : List Send) → d ≢ c → AllByRecursion (λ s. receiver s ≡ c) sends → sends_to d sends ≡ []
other_sends c d [] ne a = refl
other_sends c d (s ∷ sends) ne a = ap (λ (b : Bool). cond b (s ∷ sends_to d sends) (sends_to d sends)) (ne_eqb (receiver s) d (λ e. ne (sym e ∙ a.0))) ∙ other_sends c d sends ne a.1

-- ---- one step

after_no_header : (m : Method) (p : Phase) → is_header p ≡ false → is_header (after_method m p) ≡ false
after_no_header (ConnectionClose m) p e = refl
after_no_header ConnectionCloseOk p e = refl
after_no_header _ p e = e

sends_no_header : (sends : List Send) → is_header (after_sends sends) ≡ false
sends_no_header [] = refl
sends_no_header (send.Greeting c ∷ sends) = sends_no_header sends
sends_no_header (send.Command c h m content ∷ sends) = after_no_header m (after_sends sends) (sends_no_header sends)

to_no_header : (s : Session) (p : Phase) → is_header p ≡ false → is_header (to_phase s p).phase ≡ false
to_no_header s phase.Over e = refl
to_no_header s _ e = e

-- the first eight bytes are not awaited after what is read and performed
pub read_no_header : (s : Session) (e : Event) (sends : List Send) → is_read e ≡ true → is_header (session_after s e sends).phase ≡ false
read_no_header s (event.First c bytes) sends read = to_no_header s (after_sends sends) (sends_no_header sends)
read_no_header s (event.Command c h m content) sends read = to_no_header s (after_sends sends) (sends_no_header sends)
read_no_header s (event.TooLarge c h) sends read = to_no_header s (after_sends sends) (sends_no_header sends)
read_no_header s (event.Fault c code) sends read = refl
read_no_header s (event.Open c) sends read = absurd (false≢true read)
read_no_header s (event.Running c max k) sends read = absurd (false≢true read)
read_no_header s (event.Lose c) sends read = absurd (false≢true read)
read_no_header s (event.Pause c) sends read = absurd (false≢true read)
read_no_header s (event.Resume c) sends read = absurd (false≢true read)
read_no_header s (event.Deliver c) sends read = absurd (false≢true read)

module _ (f : Config) (old new : State) (e : Event) (sends : List Send) (notes : List Note) where
  -- what is sent to the connection of an event goes on as its phase says
  abbrev GoesOn : ℕ → Type 0
  GoesOn c = is_ended (old.session c).phase ≡ false → (sent : List Send) → Spoken c (old.session c).phase sent → Spoken c (new.session c).phase (sent ++ sends)

  performed_spoken : is_read e ≡ true → Performed f old e sends notes new → GoesOn (event_connection e)
  performed_spoken read p stands sent was =
      let c = event_connection e in
      let after : new.session c ≡ session_after (old.session c) e sends = p.sessions c ∙ with_here old.session c _ in
      let commands : AreCommandSends sends = acted_commands f.topology old.broker new.broker e sends notes (acted f.topology old.broker new.broker sends notes e p.acts) in
      spoken_on c (new.session c).phase (sent ++ sends) (ap (λ (s : Session). is_header s.phase) after ∙ read_no_header (old.session c) e sends read)
      (all-append IsCommandSend sent sends (spoken_commands c (old.session c).phase sent stands was) commands)

  answered_spoken : Answered old e sends notes new → GoesOn (event_connection e)
  answered_spoken a stands sent was =
      let c = event_connection e in
      let after : new.session c ≡ a.move.next = a.moves.session c ∙ with_here old.session c _ in
      subst (λ (s : Session). Spoken c s.phase (sent ++ sends)) (sym after) (subst (λ (z : List Send). Spoken c a.move.next.phase (sent ++ z)) (sym a.moves.sent) (a.spoken stands sent was))

  step_spoken : is_read e ≡ true → Step f old e sends notes new → GoesOn (event_connection e)
  step_spoken read s = elim (goes f old new sends notes e s) [ inl p ↦ performed_spoken read p | inr a ↦ answered_spoken a ]

-- a connection that runs is not over, and awaits no first eight bytes
running_stands : (p : Phase) → is_running p ≡ true → is_ended p ≡ false
running_stands phase.Running r = refl
running_stands _ r = absurd (false≢true r)

running_no_header : (p : Phase) → is_running p ≡ true → is_header p ≡ false
running_no_header phase.Running r = refl
running_no_header _ r = absurd (false≢true r)

-- what is delivered is sent to a connection that runs, and it runs on
delivered_spoken : (f : Config) (old new : State) (c : ℕ) (sends : List Send) (notes : List Note) → is_running (old.session c).phase ≡ true → Step f old (event.Deliver c) sends notes new → GoesOn f old new (event.Deliver c) sends notes c
delivered_spoken f old new c sends notes runs s stands sent was =
    let commands : AreCommandSends sends = acted_commands f.topology old.broker new.broker (event.Deliver c) sends notes (acted f.topology old.broker new.broker sends notes (event.Deliver c) s.acts) in
    spoken_on c (new.session c).phase (sent ++ sends) (ap (λ (z : Session). is_header z.phase) (s.session c) ∙ running_no_header (old.session c).phase runs)
    (all-append IsCommandSend sent sends (spoken_commands c (old.session c).phase sent stands was) commands)

command_is_read : (c : ℕ) (m : Command) → (event_connection (event_of c m) ≡ c) × (is_read (event_of c m) ≡ true)
command_is_read c (Head bytes) = (refl, refl)
command_is_read c (Plain h m) = (refl, refl)
command_is_read c (Full h p content) = (refl, refl)
command_is_read c (TooLarge h) = (refl, refl)

pub read_is : (c : ℕ) (k : Option Command) (s next : Stream) (e : Event) → Reads c k s e next → (event_connection e ≡ c) × (is_read e ≡ true)
read_is c k s next e (again {m = m}) = command_is_read c m
read_is c k s next e (fresh {m = m} y) = command_is_read c m
read_is c k s next e (fault y) = (refl, refl)

-- ---- whole worlds

-- what a connection was sent so far: where it stands tells it, and before it is opened it is nothing
pub record Stands (given c : ℕ) (p : Phase) (sent : List Send) : Type 0 where
  pub spoken : Spoken c p sent
  pub unopened : given < c → (p ≡ phase.Over) × (sent ≡ [])

-- from one world to another each connection is spoken to as its phase says
abbrev pub Speaks : World → List Happening → World → Type 0
Speaks old hs new = (c : ℕ) (sent : List Send) → Stands old.given c (old.state.session c).phase sent → Stands new.given c (new.state.session c).phase (sent ++ sent_to c hs)

stands_as : (given more c : ℕ) (p q : Phase) (sent sends : List Send) → more ≡ given → q ≡ p → sends ≡ sent → Stands given c p sent → Stands more c q sends
stands_as given more c p q sent sends e f g s =
    subst (λ (n : ℕ). Stands n c q sends) (sym e) (subst (λ (r : Phase). Stands given c r sends) (sym f) (subst (λ (z : List Send). Stands given c p z) (sym g) s))

-- nothing is sent to it, and its phase stays
speaks_nothing : (old new : World) (hs : List Happening) (c : ℕ) (sent : List Send) → new.given ≡ old.given → new.state.session c ≡ old.state.session c → sent_to c hs ≡ []
    → Stands old.given c (old.state.session c).phase sent → Stands new.given c (new.state.session c).phase (sent ++ sent_to c hs)
speaks_nothing old new hs c sent given session none s =
    stands_as old.given new.given c _ _ sent (sent ++ sent_to c hs) given (ap (λ (z : Session). z.phase) session) (ap (λ (z : List Send). sent ++ z) none ∙ append-nil sent) s

pub speaks_same : (old new : World) (hs : List Happening) → (hs ≡ []) × Same old new → Speaks old hs new
speaks_same old new hs p c sent s = speaks_nothing old new hs c sent p.1.given (ap (λ (z : State). z.session c) p.1.state) (ap (sent_to c) p.0) s

pub speaks_append : (old mid new : World) (hs ks : List Happening) → Speaks old hs mid → Speaks mid ks new → Speaks old (hs ++ ks) new
speaks_append old mid new hs ks a b c sent s =
    subst (λ (z : List Send). Stands new.given c (new.state.session c).phase z) (append_assoc sent (sent_to c hs) (sent_to c ks) ∙ ap (λ (z : List Send). sent ++ z) (sym (sent_append c hs ks))) (b c (sent ++ sent_to c hs) (a c sent s))

pub speaks_at : (old new : World) (hs ks : List Happening) → hs ≡ ks → Speaks old ks new → Speaks old hs new
speaks_at old new hs ks e s = subst (λ (z : List Happening). Speaks old z new) (sym e) s

-- ---- pauses

pub settled_silent : (f : Config) (mid new : State) (c : ℕ) (was is : Bool) (hs : List Happening) → Pauses f mid c was is hs new → sends_of hs ≡ []
settled_silent f mid new c false true hs (h, all, p) = ap sends_of all ∙ ap (λ (z : List Send). z ++ []) p.stepped.acts.sent
settled_silent f mid new c true false hs (h, all, p) = ap sends_of all ∙ ap (λ (z : List Send). z ++ []) p.stepped.acts.sent
settled_silent f mid new c true true hs p = ap sends_of p.0
settled_silent f mid new c false false hs p = ap sends_of p.0

pub settled_sessions : (f : Config) (mid new : State) (c : ℕ) (was is : Bool) (hs : List Happening) → Pauses f mid c was is hs new → (d : ℕ) → new.session d ≡ mid.session d
settled_sessions f mid new c false true hs (h, all, p) d = p.stepped.session d
settled_sessions f mid new c true false hs (h, all, p) d = p.stepped.session d
settled_sessions f mid new c true true hs p d = ap (λ (z : State). z.session d) p.1
settled_sessions f mid new c false false hs p d = ap (λ (z : State). z.session d) p.1

-- ---- turns

awake_stands : (over paused : Bool) → (not over && not paused) ≡ true → over ≡ false
awake_stands true paused e = absurd (false≢true e)
awake_stands false paused e = refl

pub puts_sends : (a b : World) (e : Event) (c : ℕ) (hs : List Happening) (p : Puts a e c hs b) → sends_of hs ≡ p.h.sends
puts_sends a b e c hs p =
    ap sends_of p.all ∙ ap (λ (z : List Send). p.h.sends ++ z) (settled_silent a.config p.mid b.state c _ _ p.rest p.pauses) ∙ append-nil p.h.sends

-- an event of c whose sends are put out, of which it is known how they go on
put_speaks : (c : ℕ) (old new : World) (e : Event) (hs : List Happening) (p : Puts old e c hs new) → new.given ≡ old.given → is_ended (old.state.session c).phase ≡ false
    → GoesOn old.config old.state p.mid e p.h.sends p.h.notes c → Speaks old hs new
put_speaks c old new e hs p given stands goes_on d sent s = by (d == c) refl
  where
    own : sent_to c hs ≡ p.h.sends
    own = ap (sends_to c) (puts_sends old new e c hs p) ∙ own_sends c p.h.sends p.own

    after : new.state.session c ≡ p.mid.session c
    after = settled_sessions old.config p.mid new.state c _ _ p.rest p.pauses c

    here : Stands old.given c (old.state.session c).phase sent → Stands new.given c (new.state.session c).phase (sent ++ sent_to c hs)
    here s = record {
      spoken = subst (λ (z : List Send). Spoken c (new.state.session c).phase (sent ++ z)) (sym own) (subst (λ (z : Session). Spoken c z.phase (sent ++ p.h.sends)) (sym after) (goes_on stands sent s.spoken));
      unopened = λ lt. absurd (false≢true (sym stands ∙ ap is_ended (s.unopened (subst (λ (n : ℕ). n < c) given lt)).0));
    }

    by : (v : Bool) → (d == c) ≡ v → Stands new.given d (new.state.session d).phase (sent ++ sent_to d hs)
    by true x =
        let is : d ≡ c = eqb-true d c x in
        subst (λ (x : ℕ). Stands old.given x (old.state.session x).phase sent → Stands new.given x (new.state.session x).phase (sent ++ sent_to x hs)) (sym is) here s
    by false x =
        let ne : d ≢ c = eqb-false d c x in
        speaks_nothing old new hs d sent given (p.rests d ne) (ap (sends_to d) (puts_sends old new e c hs p) ∙ other_sends c d p.h.sends ne p.own) s

turn_speaks : (c : ℕ) (old new : World) (hs : List Happening) → Turns old c hs new → Speaks old hs new
turn_speaks c old new hs t =
    let p = t.puts in
    let read = read_is c _ _ _ t.event t.read in
    put_speaks c old new t.event hs p t.given (awake_stands (is_over old c) (is_paused old c) t.awake)
    (subst (λ (x : ℕ). GoesOn old.config old.state p.mid t.event p.h.sends p.h.notes x) read.0 (step_spoken old.config old.state p.mid t.event p.h.sends p.h.notes read.1 p.happens.stepped))

-- ---- deliveries

delivers_speaks : (c : ℕ) (old new : World) (hs : List Happening) → IsLinked old → Delivers old c hs new → Speaks old hs new
delivers_speaks c old new hs k d =
    let p = d.puts in
    let runs : is_running (old.state.session c).phase ≡ true = sym (k.running c) ∙ ap is_some p.happens.stepped.acts.made.taker.runs in
    put_speaks c old new (event.Deliver c) hs p d.given (running_stands (old.state.session c).phase runs) (delivered_spoken old.config old.state p.mid c p.h.sends p.h.notes runs p.happens.stepped)

pumps_speaks : (old new : World) (hs : List Happening) → IsLinked old → Pumps old hs new → Speaks old hs new
pumps_speaks old new hs k (delivers {c = c} d) = delivers_speaks c old new hs k d
pumps_speaks old new hs k (idles n p) = speaks_same old new hs p

-- ---- openings and losses

-- one event without sends, after which connection c is in this session
alone : (c d : ℕ) (old new : World) (h : Happening) (hs : List Happening) → hs ≡ h ∷ [] → h.sends ≡ [] → sent_to d hs ≡ []
alone c d old new h hs all silent = ap (sent_to d) all ∙ ap (λ (z : List Send). sends_to d (z ++ [])) silent

opens_speaks : (old new : World) (e : Event) (st : Stream) (after : Session) (hs : List Happening) → Opens old e st hs new → ((d : ℕ) → new.state.session d ≡ with_one old.state.session (old.given + 1) after d)
    → Spoken (old.given + 1) after.phase [] → Speaks old hs new
opens_speaks old new e st after hs o sessions speaks c sent s = by (c == old.given + 1) refl
  where
    none : sent_to c hs ≡ []
    none = alone c c old new o.h hs o.all o.silent

    by : (v : Bool) → (c == old.given + 1) ≡ v → Stands new.given c (new.state.session c).phase (sent ++ sent_to c hs)
    by true e =
        let is : c ≡ old.given + 1 = eqb-true c (old.given + 1) e in
        let was : sent ≡ [] = (s.unopened (omega (arith, is))).1 in
        let all : sent ++ sent_to c hs ≡ [] = ap (λ (z : List Send). z ++ sent_to c hs) was ∙ none in
        let session : new.state.session c ≡ after = sessions c ∙ ap (λ (b : Bool). cond b after (old.state.session c)) e in
        record {
          spoken = subst (λ (z : List Send). Spoken c (new.state.session c).phase z) (sym all) (subst (λ (z : Session). Spoken c z.phase []) (sym session) (subst (λ (n : ℕ). Spoken n after.phase []) (sym is) speaks));
          unopened = λ lt. let more = o.given in absurd (omega (arith, is, more, lt));
        }
    by false e =
        let session : new.state.session c ≡ old.state.session c = sessions c ∙ ap (λ (b : Bool). cond b after (old.state.session c)) e in
        let same = stands_as old.given old.given c _ _ sent (sent ++ sent_to c hs) refl (ap (λ (z : Session). z.phase) session) (ap (λ (z : List Send). sent ++ z) none ∙ append-nil sent) s in
        record { spoken = same.spoken; unopened = λ lt. let more = o.given in same.unopened (omega (arith, more, lt)) }

loses_speaks : (old new : World) (c : ℕ) (hs : List Happening) → Loses old c hs new → Speaks old hs new
loses_speaks old new c hs o d sent s = by (d == c) refl
  where
    none : sent_to d hs ≡ []
    none = alone c d old new o.h hs o.all o.silent

    by : (v : Bool) → (d == c) ≡ v → Stands new.given d (new.state.session d).phase (sent ++ sent_to d hs)
    by true e =
        let session : new.state.session d ≡ no_session = o.happens.stepped.session d ∙ ap (λ (b : Bool). cond b no_session (old.state.session d)) e in
        stands_as old.given new.given d phase.Over _ sent (sent ++ sent_to d hs) o.given (ap (λ (z : Session). z.phase) session) (ap (λ (z : List Send). sent ++ z) none ∙ append-nil sent)
        (record { spoken = spoken_over d (old.state.session d).phase sent s.spoken; unopened = λ lt. (refl, (s.unopened lt).1) })
    by false e =
        let session : new.state.session d ≡ old.state.session d = o.happens.stepped.session d ∙ ap (λ (b : Bool). cond b no_session (old.state.session d)) e in
        speaks_nothing old new hs d sent o.given session none s

pub takes_speaks : (c n : ℕ) (old new : World) (hs : List Happening) → TakesOutput old c n hs new → Speaks old hs new
takes_speaks c n old new hs t d sent s =
    speaks_nothing old new hs d sent t.given (settled_sessions old.config old.state new.state c _ _ hs t.pauses d) (ap (sends_to d) (settled_silent old.config old.state new.state c _ _ hs t.pauses)) s

-- ---- arrivals

pub works_speaks : (c : ℕ) (old new : World) (hs : List Happening) → Works c old hs new → Speaks old hs new
works_speaks c old new hs none_more = speaks_same old old [] (refl, record { config = refl; state = refl; given = refl; wires = λ d. refl })
works_speaks c old new hs (one_more {mid = m} {first = f} {rest = r} t more e) = speaks_at old new hs (f ++ r) e (speaks_append old m new f r (turn_speaks c old m f t) (works_speaks c m new r more))

-- nothing is sent where nothing is performed
pub waits_speaks : (c : ℕ) (old mid new : World) (hs : List Happening) → Speaks old hs mid → Waits mid c new → Speaks old hs new
waits_speaks c old mid new hs s v d sent was =
    stands_as mid.given new.given d (mid.state.session d).phase _ (sent ++ sent_to d hs) (sent ++ sent_to d hs) v.given (ap (λ (z : State). (z.session d).phase) v.state) refl (s d sent was)

works_off_speaks : (c : ℕ) (old new : World) (hs : List Happening) → WorksOff old c hs new → Speaks old hs new
works_off_speaks c old new hs w = waits_speaks c old w.mid new hs (works_speaks c old w.mid hs w.works) w.waits

events_speak : (old new : World) (os : List Occurrence) (hs : List Happening) → os ≡ map Of_event hs → Speaks old hs new → Speaks old (events_of os) new
events_speak old new os hs e s = speaks_at old new (events_of os) hs (ap events_of e ∙ events-mapped hs) s

-- nothing is sent by a reload
reloads_speak : (old new : World) (offered : Config) (os : List Occurrence) → Reloads old offered os new → Speaks old (events_of os) new
reloads_speak old new offered os p c sent s = speaks_nothing old new (events_of os) c sent p.given session (ap (λ (z : List Occurrence). sent_to c (events_of z)) p.all) s
  where
    session : new.state.session c ≡ old.state.session c
    session = elim (state_left p.r p.decided) [
      | inl e ↦ ap (λ (z : State). z.session c) (sym p.after ∙ e ∙ ap all_marked p.before)
      | inr e ↦ ap (λ (z : State). z.session c) (sym p.after ∙ e ∙ p.before)
    ]

pub answer_speaks : (old new : World) (a : Arrival Config) (os : List Occurrence) → IsLinked old → Answers old a os new → Speaks old (events_of os) new
answer_speaks old new arrival.Open os k (hs, e, p) =
    events_speak old new os hs e (from_either (can_open old) (λ o. opens_speaks old new _ _ new_session hs o o.happens.stepped.steps.session refl) (speaks_same old new hs) p)
answer_speaks old new (arrival.Ready n) os k (hs, e, p) =
    events_speak old new os hs e (from_either (can_open old) (λ o. opens_speaks old new _ _ (record running_session { channel_max = 255 }) hs o o.happens.stepped.session tt) (speaks_same old new hs) p)
answer_speaks old new (arrival.In c bytes) os k (hs, e, p) = events_speak old new os hs e (from_either (is_over old c) (speaks_same old new hs) (λ w. works_off_speaks c (with_heard old c bytes) new hs w) p)
answer_speaks old new (arrival.Sent c n) os k (hs, e, p) =
    events_speak old new os hs e (from_either (is_gone old c) (speaks_same old new hs) (λ t. speaks_at old new hs (t.first ++ t.rest) t.all (speaks_append old t.mid new t.first t.rest (takes_speaks c n old t.mid t.first t.takes) (works_off_speaks c t.mid new t.rest t.works))) p)
answer_speaks old new arrival.Pump os k (hs, e, p) = events_speak old new os hs e (pumps_speaks old new hs k p)
answer_speaks old new (arrival.Lose c) os k (hs, e, p) = events_speak old new os hs e (from_either (is_gone old c) (speaks_same old new hs) (λ o. loses_speaks old new c hs o) p)
answer_speaks old new (arrival.Reload g) os k p = reloads_speak old new g os p

play_speaks : (old new : World) (arrivals : List (Arrival Config)) (os : List Occurrence) → IsLinked old → Plays old arrivals os new → Speaks old (events_of os) new
play_speaks old new [] os k p = speaks_same old new (events_of os) (ap events_of p.0, p.1)
play_speaks old new (a ∷ arrivals) os k (mid, first, rest, e, brings, p) =
    speaks_at old new (events_of os) (events_of first ++ events_of rest) (ap events_of e ∙ events-append first rest)
    (speaks_append old mid new (events_of first) (events_of rest) (answer_speaks old mid a first k brings) (play_speaks mid new arrivals rest (answers_linked old mid a first k brings) p))

-- From the start on a connection was sent commands, or the protocol header alone.
pub spoken_from_start : (f : Config) (hs : List Happening) (w : World) → Speaks (new_world f) hs w → (c : ℕ) → AreCommandSends (sent_to c hs) ⊎ (sent_to c hs ≡ send.Greeting c ∷ [])
spoken_from_start f hs w speaks c = spoken_over c (w.state.session c).phase (sent_to c hs) (speaks c [] (record { spoken = inl tt; unopened = λ lt. (refl, refl) })).spoken

pub is_spoken : (f : Config) (arrivals : List (Arrival Config)) (os : List Occurrence) (w : World) → Plays (new_world f) arrivals os w → (c : ℕ) → AreCommandSends (sent_to c (events_of os)) ⊎ (sent_to c (events_of os) ≡ send.Greeting c ∷ [])
is_spoken f arrivals os w p c = spoken_from_start f (events_of os) w (play_speaks (new_world f) w arrivals os (new_is_linked f) p) c
