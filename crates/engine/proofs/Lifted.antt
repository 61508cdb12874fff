-- A turn of one connection is a turn of the world.
use Rattle.engine.proofs.Names.{◌≡◌, ◌≢◌, ℕ, List, [], ◌∷◌, ◌++◌, Bool, true, false, cond, Option, Some, None, drop, refl, sym, ap, subst, ◌∙◌, append-nil, ◌⊎◌, inl, inr, ◌==◌, ◌&&◌, not, if◌then◌else◌, MatchBool, eq-eqb, Broker, with_one, Stream, Ends, stays, running_stream, heard, Session, Move, to_phase, after_sends, faulted, IsAnswered, first_move, User, Config, State, Step, Steps, Moves, OfCommand, OfLarge, OfFault, OfFirst, Acts, empty_publish, spelling, Happening, notes_of, Wire, Turns, Pauses, Reads, again, fresh, fault, event_of, is_over, is_paused, is_ended, is_past_bound, wire_after, under_session, new_wire, Waits, Same, SameToCome, still, waits, IsIdle, TakesOutput, Loses, with_heard, Note, Send, Phase, Command, Head, Plain, TooLarge, Event, stream_of, rules_of, IsAskedBy, DecidesByPhase, ByBroker, ByPhase, session_after, PausesOr, kept_of, ConnectionDid, ConnectionWaits, WaitingBytes, Parts, connection_in, session_of, wire_in, wire_of, config_of, state_of, world_of, Becomes, ConnectionSent, ConnectionFed, world_same, Hears, Connection}
use Rattle.model.specs.Words.{Text}
use Rattle.model.specs.declared.contents.Content.{Content}
use Rattle.model.specs.declared.methods.Method.{Method}
use Rattle.model.specs.declared.methods.Method.TheVariants.{BasicPublish}
use Rattle.model.specs.declared.events.Phase.TheVariants as phase
use Rattle.model.specs.declared.events.Command.TheVariants.{Full}
use Rattle.model.specs.declared.events.Event.TheVariants as event
use Rattle.broker.specs.Turns.{topology_kept, broker_of}
use Rattle.engine.proofs.Changed.{either}

-- ---- what one connection does is a step

moved : (users : List User) (s : State) (c : ℕ) (sess sess' : Session) (e : Event) (p : Phase) (sends : List Send) (notes : List Note) (mid : Broker)
    → ByPhase users c p s.broker sess e sends notes mid sess' → Moves s c (record { sends = sends; next = sess' }) sends notes (record { broker = mid; session = with_one s.session c sess' })
moved users s c sess sess' e p sends notes mid by = record { sent = refl; noted = by.noted; session = λ k. refl; broker = by.broker }

stepped_by : (f : Config) (s : State) (c : ℕ) (sess sess' : Session) (e : Event) (sends : List Send) (notes : List Note) (mid : Broker) (after : Session)
    → ByBroker f.topology s.broker sess e sends notes mid sess' → session_after sess e sends ≡ after
    → Steps f s c e sends notes after (record { broker = mid; session = with_one s.session c sess' })
stepped_by f s c sess sess' e sends notes mid after by is = record { acts = by.acts; session = λ k. ap (λ (z : Session). with_one s.session c z k) (by.session ∙ is) }

of_command : (p : Phase) (f : Config) (s : State) (c h : ℕ) (m : Method) (content : Option Content) (sess sess' : Session) (sends : List Send) (notes : List Note) (mid : Broker)
    → s.session c ≡ sess → sess.phase ≡ p → DecidesByPhase c p (rules_of f.topology f.users) s.broker sess (event.Command c h m content) sends notes mid sess'
    → OfCommand f s p c h m content sends notes (record { broker = mid; session = with_one s.session c sess' })
of_command phase.Running f s c h m content sess sess' sends notes mid eq at by = stepped_by f s c sess sess' _ sends notes mid _ by (ap (λ (z : Session). to_phase z (after_sends sends)) (sym eq))
of_command phase.Header f s c h m content sess sess' sends notes mid eq at by = record { move = record { sends = sends; next = sess' }; answered = subst (λ (z : Session). IsAnswered f.users c z phase.Header h m (record { sends = sends; next = sess' })) (sym eq) by.answered; moves = moved f.users s c sess sess' _ phase.Header sends notes mid by }
of_command phase.Start f s c h m content sess sess' sends notes mid eq at by = record { move = record { sends = sends; next = sess' }; answered = subst (λ (z : Session). IsAnswered f.users c z phase.Start h m (record { sends = sends; next = sess' })) (sym eq) by.answered; moves = moved f.users s c sess sess' _ phase.Start sends notes mid by }
of_command phase.Tune f s c h m content sess sess' sends notes mid eq at by = record { move = record { sends = sends; next = sess' }; answered = subst (λ (z : Session). IsAnswered f.users c z phase.Tune h m (record { sends = sends; next = sess' })) (sym eq) by.answered; moves = moved f.users s c sess sess' _ phase.Tune sends notes mid by }
of_command phase.Open f s c h m content sess sess' sends notes mid eq at by = record { move = record { sends = sends; next = sess' }; answered = subst (λ (z : Session). IsAnswered f.users c z phase.Open h m (record { sends = sends; next = sess' })) (sym eq) by.answered; moves = moved f.users s c sess sess' _ phase.Open sends notes mid by }
of_command phase.Closing f s c h m content sess sess' sends notes mid eq at by = record { move = record { sends = sends; next = sess' }; answered = subst (λ (z : Session). IsAnswered f.users c z phase.Closing h m (record { sends = sends; next = sess' })) (sym eq) by.answered; moves = moved f.users s c sess sess' _ phase.Closing sends notes mid by }
of_command phase.Over f s c h m content sess sess' sends notes mid eq at by = record { move = record { sends = sends; next = sess' }; answered = subst (λ (z : Session). IsAnswered f.users c z phase.Over h m (record { sends = sends; next = sess' })) (sym eq) by.answered; moves = moved f.users s c sess sess' _ phase.Over sends notes mid by }

of_fault : (p : Phase) (f : Config) (s : State) (c code : ℕ) (sess sess' : Session) (sends : List Send) (notes : List Note) (mid : Broker)
    → s.session c ≡ sess → sess.phase ≡ p → DecidesByPhase c p (rules_of f.topology f.users) s.broker sess (event.Fault c code) sends notes mid sess'
    → OfFault f s p c code sends notes (record { broker = mid; session = with_one s.session c sess' })
of_fault phase.Running f s c code sess sess' sends notes mid eq at by = stepped_by f s c sess sess' _ sends notes mid _ by (ap (λ (z : Session). to_phase z phase.Over) (sym eq))
of_fault phase.Header f s c code sess sess' sends notes mid eq at by = subst (λ (x : Move). Moves s c x sends notes (record { broker = mid; session = with_one s.session c sess' })) (by.answered ∙ ap (λ (z : Session). faulted c z phase.Header code) (sym eq)) (moved f.users s c sess sess' _ phase.Header sends notes mid by)
of_fault phase.Start f s c code sess sess' sends notes mid eq at by = subst (λ (x : Move). Moves s c x sends notes (record { broker = mid; session = with_one s.session c sess' })) (by.answered ∙ ap (λ (z : Session). faulted c z phase.Start code) (sym eq)) (moved f.users s c sess sess' _ phase.Start sends notes mid by)
of_fault phase.Tune f s c code sess sess' sends notes mid eq at by = subst (λ (x : Move). Moves s c x sends notes (record { broker = mid; session = with_one s.session c sess' })) (by.answered ∙ ap (λ (z : Session). faulted c z phase.Tune code) (sym eq)) (moved f.users s c sess sess' _ phase.Tune sends notes mid by)
of_fault phase.Open f s c code sess sess' sends notes mid eq at by = subst (λ (x : Move). Moves s c x sends notes (record { broker = mid; session = with_one s.session c sess' })) (by.answered ∙ ap (λ (z : Session). faulted c z phase.Open code) (sym eq)) (moved f.users s c sess sess' _ phase.Open sends notes mid by)
of_fault phase.Closing f s c code sess sess' sends notes mid eq at by = subst (λ (x : Move). Moves s c x sends notes (record { broker = mid; session = with_one s.session c sess' })) (by.answered ∙ ap (λ (z : Session). faulted c z phase.Closing code) (sym eq)) (moved f.users s c sess sess' _ phase.Closing sends notes mid by)
of_fault phase.Over f s c code sess sess' sends notes mid eq at by = subst (λ (x : Move). Moves s c x sends notes (record { broker = mid; session = with_one s.session c sess' })) (by.answered ∙ ap (λ (z : Session). faulted c z phase.Over code) (sym eq)) (moved f.users s c sess sess' _ phase.Over sends notes mid by)

of_large : (p : Phase) (f : Config) (s : State) (c h : ℕ) (sess sess' : Session) (sends : List Send) (notes : List Note) (mid : Broker)
    → s.session c ≡ sess → sess.phase ≡ p → DecidesByPhase c p (rules_of f.topology f.users) s.broker sess (event.TooLarge c h) sends notes mid sess'
    → OfLarge f s p c h sends notes (record { broker = mid; session = with_one s.session c sess' })
of_large phase.Running f s c h sess sess' sends notes mid eq at by = stepped_by f s c sess sess' _ sends notes mid _ by (ap (λ (z : Session). to_phase z (after_sends sends)) (sym eq))
of_large phase.Header f s c h sess sess' sends notes mid eq at by = record { move = record { sends = sends; next = sess' }; answered = subst (λ (z : Session). IsAnswered f.users c z phase.Header h empty_publish (record { sends = sends; next = sess' })) (sym eq) by.answered; moves = moved f.users s c sess sess' _ phase.Header sends notes mid by }
of_large phase.Start f s c h sess sess' sends notes mid eq at by = record { move = record { sends = sends; next = sess' }; answered = subst (λ (z : Session). IsAnswered f.users c z phase.Start h empty_publish (record { sends = sends; next = sess' })) (sym eq) by.answered; moves = moved f.users s c sess sess' _ phase.Start sends notes mid by }
of_large phase.Tune f s c h sess sess' sends notes mid eq at by = record { move = record { sends = sends; next = sess' }; answered = subst (λ (z : Session). IsAnswered f.users c z phase.Tune h empty_publish (record { sends = sends; next = sess' })) (sym eq) by.answered; moves = moved f.users s c sess sess' _ phase.Tune sends notes mid by }
of_large phase.Open f s c h sess sess' sends notes mid eq at by = record { move = record { sends = sends; next = sess' }; answered = subst (λ (z : Session). IsAnswered f.users c z phase.Open h empty_publish (record { sends = sends; next = sess' })) (sym eq) by.answered; moves = moved f.users s c sess sess' _ phase.Open sends notes mid by }
of_large phase.Closing f s c h sess sess' sends notes mid eq at by = record { move = record { sends = sends; next = sess' }; answered = subst (λ (z : Session). IsAnswered f.users c z phase.Closing h empty_publish (record { sends = sends; next = sess' })) (sym eq) by.answered; moves = moved f.users s c sess sess' _ phase.Closing sends notes mid by }
of_large phase.Over f s c h sess sess' sends notes mid eq at by = record { move = record { sends = sends; next = sess' }; answered = subst (λ (z : Session). IsAnswered f.users c z phase.Over h empty_publish (record { sends = sends; next = sess' })) (sym eq) by.answered; moves = moved f.users s c sess sess' _ phase.Over sends notes mid by }

of_first : (p : Phase) (f : Config) (s : State) (c : ℕ) (bytes : Text) (sess sess' : Session) (sends : List Send) (notes : List Note) (mid : Broker)
    → s.session c ≡ sess → sess.phase ≡ p → DecidesByPhase c p (rules_of f.topology f.users) s.broker sess (event.First c bytes) sends notes mid sess'
    → OfFirst f s p c bytes sends notes (record { broker = mid; session = with_one s.session c sess' })
of_first phase.Running f s c bytes sess sess' sends notes mid eq at by = stepped_by f s c sess sess' _ sends notes mid _ by (ap (λ (z : Session). to_phase z (after_sends sends)) (sym eq))
of_first phase.Header f s c bytes sess sess' sends notes mid eq at by = subst (λ (x : Move). Moves s c x sends notes (record { broker = mid; session = with_one s.session c sess' })) (by.answered ∙ ap (λ (z : Session). first_move c z phase.Header bytes) (sym eq)) (moved f.users s c sess sess' _ phase.Header sends notes mid by)
of_first phase.Start f s c bytes sess sess' sends notes mid eq at by = subst (λ (x : Move). Moves s c x sends notes (record { broker = mid; session = with_one s.session c sess' })) (by.answered ∙ ap (λ (z : Session). first_move c z phase.Start bytes) (sym eq)) (moved f.users s c sess sess' _ phase.Start sends notes mid by)
of_first phase.Tune f s c bytes sess sess' sends notes mid eq at by = subst (λ (x : Move). Moves s c x sends notes (record { broker = mid; session = with_one s.session c sess' })) (by.answered ∙ ap (λ (z : Session). first_move c z phase.Tune bytes) (sym eq)) (moved f.users s c sess sess' _ phase.Tune sends notes mid by)
of_first phase.Open f s c bytes sess sess' sends notes mid eq at by = subst (λ (x : Move). Moves s c x sends notes (record { broker = mid; session = with_one s.session c sess' })) (by.answered ∙ ap (λ (z : Session). first_move c z phase.Open bytes) (sym eq)) (moved f.users s c sess sess' _ phase.Open sends notes mid by)
of_first phase.Closing f s c bytes sess sess' sends notes mid eq at by = subst (λ (x : Move). Moves s c x sends notes (record { broker = mid; session = with_one s.session c sess' })) (by.answered ∙ ap (λ (z : Session). first_move c z phase.Closing bytes) (sym eq)) (moved f.users s c sess sess' _ phase.Closing sends notes mid by)
of_first phase.Over f s c bytes sess sess' sends notes mid eq at by = subst (λ (x : Move). Moves s c x sends notes (record { broker = mid; session = with_one s.session c sess' })) (by.answered ∙ ap (λ (z : Session). first_move c z phase.Over bytes) (sym eq)) (moved f.users s c sess sess' _ phase.Over sends notes mid by)

commanded : (m : Command) (f : Config) (s : State) (c : ℕ) (sess sess' : Session) (sends : List Send) (notes : List Note) (mid : Broker)
    → s.session c ≡ sess → DecidesByPhase c sess.phase (rules_of f.topology f.users) s.broker sess (event_of c m) sends notes mid sess'
    → Step f s (event_of c m) sends notes (record { broker = mid; session = with_one s.session c sess' })
commanded (Head bytes) f s c sess sess' sends notes mid eq by =
    subst (λ (z : Session). OfFirst f s z.phase c bytes sends notes (record { broker = mid; session = with_one s.session c sess' })) (sym eq) (of_first sess.phase f s c bytes sess sess' sends notes mid eq refl by)
commanded (Plain h m) f s c sess sess' sends notes mid eq by =
    subst (λ (z : Session). OfCommand f s z.phase c h m None sends notes (record { broker = mid; session = with_one s.session c sess' })) (sym eq) (of_command sess.phase f s c h m None sess sess' sends notes mid eq refl by)
commanded (Full h p content) f s c sess sess' sends notes mid eq by =
    subst (λ (z : Session). OfCommand f s z.phase c h (BasicPublish p) (Some content) sends notes (record { broker = mid; session = with_one s.session c sess' })) (sym eq) (of_command sess.phase f s c h (BasicPublish p) (Some content) sess sess' sends notes mid eq refl by)
commanded (TooLarge h) f s c sess sess' sends notes mid eq by =
    subst (λ (z : Session). OfLarge f s z.phase c h sends notes (record { broker = mid; session = with_one s.session c sess' })) (sym eq) (of_large sess.phase f s c h sess sess' sends notes mid eq refl by)

-- the same for any event that the connection itself asks for
pub decided_steps : (c : ℕ) (e : Event) → IsAskedBy c e → (f : Config) (s : State) (sess sess' : Session) (sends : List Send) (notes : List Note) (mid : Broker)
    → s.session c ≡ sess → DecidesByPhase c sess.phase (rules_of f.topology f.users) s.broker sess e sends notes mid sess'
    → Step f s e sends notes (record { broker = mid; session = with_one s.session c sess' })
decided_steps c (event.First d bytes) is f s sess sess' sends notes mid eq =
    subst (λ (x : ℕ). DecidesByPhase c sess.phase (rules_of f.topology f.users) s.broker sess (event.First x bytes) sends notes mid sess' → Step f s (event.First x bytes) sends notes (record { broker = mid; session = with_one s.session c sess' })) (sym is)
    (λ by. subst (λ (z : Session). OfFirst f s z.phase c bytes sends notes (record { broker = mid; session = with_one s.session c sess' })) (sym eq) (of_first sess.phase f s c bytes sess sess' sends notes mid eq refl by))
decided_steps c (event.Command d h m content) is f s sess sess' sends notes mid eq =
    subst (λ (x : ℕ). DecidesByPhase c sess.phase (rules_of f.topology f.users) s.broker sess (event.Command x h m content) sends notes mid sess' → Step f s (event.Command x h m content) sends notes (record { broker = mid; session = with_one s.session c sess' })) (sym is)
    (λ by. subst (λ (z : Session). OfCommand f s z.phase c h m content sends notes (record { broker = mid; session = with_one s.session c sess' })) (sym eq) (of_command sess.phase f s c h m content sess sess' sends notes mid eq refl by))
decided_steps c (event.TooLarge d h) is f s sess sess' sends notes mid eq =
    subst (λ (x : ℕ). DecidesByPhase c sess.phase (rules_of f.topology f.users) s.broker sess (event.TooLarge x h) sends notes mid sess' → Step f s (event.TooLarge x h) sends notes (record { broker = mid; session = with_one s.session c sess' })) (sym is)
    (λ by. subst (λ (z : Session). OfLarge f s z.phase c h sends notes (record { broker = mid; session = with_one s.session c sess' })) (sym eq) (of_large sess.phase f s c h sess sess' sends notes mid eq refl by))
decided_steps c (event.Fault d code) is f s sess sess' sends notes mid eq =
    subst (λ (x : ℕ). DecidesByPhase c sess.phase (rules_of f.topology f.users) s.broker sess (event.Fault x code) sends notes mid sess' → Step f s (event.Fault x code) sends notes (record { broker = mid; session = with_one s.session c sess' })) (sym is)
    (λ by. subst (λ (z : Session). OfFault f s z.phase c code sends notes (record { broker = mid; session = with_one s.session c sess' })) (sym eq) (of_fault sess.phase f s c code sess sess' sends notes mid eq refl by))
decided_steps c (event.Open d) is f s sess sess' sends notes mid eq = absurd is
decided_steps c (event.Running d max k) is f s sess sess' sends notes mid eq = absurd is
decided_steps c (event.Lose d) is f s sess sess' sends notes mid eq = absurd is
decided_steps c (event.Pause d) is f s sess sess' sends notes mid eq = absurd is
decided_steps c (event.Resume d) is f s sess sess' sends notes mid eq = absurd is
decided_steps c (event.Deliver d) is f s sess sess' sends notes mid eq = absurd is

pub asked_steps : (c : ℕ) (k : Option Command) (st nx : Stream) (e : Event) (f : Config) (s : State) (sess sess' : Session) (sends : List Send) (notes : List Note) (mid : Broker)
    → Reads c k st e nx → s.session c ≡ sess → DecidesByPhase c sess.phase (rules_of f.topology f.users) s.broker sess e sends notes mid sess'
    → Step f s e sends notes (record { broker = mid; session = with_one s.session c sess' })
asked_steps c k st nx e f s sess sess' sends notes mid (again {m = m}) eq by = commanded m f s c sess sess' sends notes mid eq by
asked_steps c k st nx e f s sess sess' sends notes mid (fresh {m = m} y) eq by = commanded m f s c sess sess' sends notes mid eq by
asked_steps c k st nx e f s sess sess' sends notes mid (fault {code = code} y) eq by =
    subst (λ (z : Session). OfFault f s z.phase c code sends notes (record { broker = mid; session = with_one s.session c sess' })) (sym eq) (of_fault sess.phase f s c code sess sess' sends notes mid eq refl by)

-- ---- the pause that it brings

-- what follows the event itself
pub record Ended (f : Config) (mid : State) (c : ℕ) (was is : Bool) (new : State) : Type 0 where
  pub hs : List Happening
  pub pauses : Pauses f mid c was is hs new
  pub quiet : notes_of hs ≡ []

pub ended : (f : Config) (mid new : State) (c : ℕ) (was is : Bool) → PausesOr f.topology c was is mid.broker new.broker → ((d : ℕ) → new.session d ≡ mid.session d) → Ended f mid c was is new
ended f mid new c false true p s =
    let h : Happening = record { config = f; event = event.Pause c; before = mid; sends = []; notes = []; frame_max = 0; after = new } in
    record { hs = h ∷ []; pauses = (h, refl, record { under = refl; event = refl; before = refl; after = refl; stepped = record { acts = p.acts; session = s } }); quiet = refl }
ended f mid new c true false p s =
    let h : Happening = record { config = f; event = event.Resume c; before = mid; sends = []; notes = []; frame_max = 0; after = new } in
    record { hs = h ∷ []; pauses = (h, refl, record { under = refl; event = refl; before = refl; after = refl; stepped = record { acts = p.acts; session = s } }); quiet = refl }
ended f mid new c true true p s = record { hs = []; pauses = (refl, λ i. record { broker = p i; session = λ d. s d i }); quiet = refl }
ended f mid new c false false p s = record { hs = []; pauses = (refl, λ i. record { broker = p i; session = λ d. s d i }); quiet = refl }

-- ---- the turn

pub at_own : {A : Type 0} (f : ℕ → A) (n : ℕ) (a : A) → with_one f n a n ≡ a
at_own f n a = ap (λ (b : Bool). cond b a (f n)) (eq-eqb n n refl)

pub at_others : {A : Type 0} (f : ℕ → A) (n d : ℕ) (a : A) → d ≢ n → with_one f n a d ≡ f d
at_others f n d a ne = ap (λ (b : Bool). cond b a (f d)) (Rattle.engine.proofs.Numbered.other_false d n ne)

pub same_config : (old new : Parts) (l l' : Connection) → Becomes old l l' new → config_of new ≡ config_of old
same_config old new l l' b = λ i. record { topology = b.topology i; guarantees = b.guarantees i; users = b.users i }

-- of one that is awake, the connection's own fields are what its world shows
wire_open : (b : Bool) (l : Connection) → b ≡ false → wire_in b l ≡ record { kept = kept_of l.kept; stream = stream_of l.stream; output = l.output.bytes }
wire_open false l e = refl
wire_open true l e = absurd (Rattle.std.proofs.lemmas.Bool.false≢true (sym e))

pub output_in : (b : Bool) (l : Connection) → (wire_in b l).output ≡ l.output.bytes
output_in true l = refl
output_in false l = refl

-- after a turn nothing is kept, and the stream is what follows, unless the connection is over
wire_left : (b : Bool) (l : Connection) (next : Stream) → l.kept ≡ None → (stream_of l.stream ≡ next) ⊎ (b ≡ true)
    → wire_in b l ≡ (if b then record new_wire { output = l.output.bytes } else record { kept = None; stream = next; output = l.output.bytes })
wire_left true l next k f = refl
wire_left false l next k (inl f) = λ i. record { kept = kept_of (k i); stream = f i; output = l.output.bytes }
wire_left false l next k (inr f) = absurd (Rattle.std.proofs.lemmas.Bool.false≢true f)

pub turned : (old new : Parts) (l l' : Connection) (notes : List Note) → Becomes old l l' new → connection_in old.connections l.number ≡ Some l
    → is_ended l.session.phase ≡ false → is_past_bound l.output.bytes ≡ false
    → ConnectionDid (rules_of (topology_kept old.broker) old.users) (broker_of old.broker) l notes (broker_of new.broker) l'
    → (hs : List Happening) × (notes ≡ notes_of hs) × Turns (world_of old) l.number hs (world_of new)
turned old new l l' notes b found open_still below did =
    let c = l.number in
    let p = did.performed in
    let wire_was : wire_of (connection_in old.connections c) ≡ record { kept = kept_of l.kept; stream = stream_of l.stream; output = l.output.bytes } = ap wire_of found ∙ wire_open _ l open_still in
    let session_was : session_of (connection_in old.connections c) ≡ l.session = ap session_of found in
    let wire_is : wire_of (connection_in new.connections c) ≡ wire_of (Some l') = b.wires c ∙ at_own (λ d. wire_of (connection_in old.connections d)) c (wire_of (Some l')) in
    let session_is : session_of (connection_in new.connections c) ≡ l'.session = b.sessions c ∙ at_own (λ d. session_of (connection_in old.connections d)) c l'.session in
    let output_is : (wire_of (connection_in new.connections c)).output ≡ l'.output.bytes = ap (λ (w : Wire). w.output) wire_is ∙ output_in (is_ended l'.session.phase) l' in
    let output_was : (wire_of (connection_in old.connections c)).output ≡ l.output.bytes = ap (λ (w : Wire). w.output) wire_was in
    let mid : State = record { broker = p.mid; session = with_one (λ d. session_of (connection_in old.connections d)) c l'.session } in
    let h : Happening = record { config = config_of old; event = did.event; before = state_of old; sends = p.sends; notes = notes; frame_max = l.session.frame_max; after = mid } in
    let past_was : is_paused (world_of old) c ≡ false = ap is_past_bound output_was ∙ below in
    let past_is : is_paused (world_of new) c ≡ is_past_bound l'.output.bytes = ap is_past_bound output_is in
    let rest : Ended (config_of old) mid c false (is_past_bound l'.output.bytes) (state_of new) = ended (config_of old) mid (state_of new) c false (is_past_bound l'.output.bytes) p.pauses b.sessions in (
      h ∷ rest.hs,
      sym (ap (λ (z : List Note). notes ++ z) rest.quiet ∙ append-nil notes),
      record {
        awake = ap (λ (v : Bool). not v && not (is_paused (world_of old) c)) (ap (λ (s : Session). is_ended s.phase) session_was ∙ open_still) ∙ ap (λ (v : Bool). not false && not v) past_was;
        event = did.event;
        next = did.next;
        read = subst (λ (w : Wire). Reads c w.kept w.stream did.event did.next) (sym wire_was) did.read;
        said = did.said;
        puts = record {
          h = h;
          rest = rest.hs;
          all = refl;
          mid = mid;
          happens = record { under = refl; event = refl; before = refl; after = refl; stepped = asked_steps c (kept_of l.kept) (stream_of l.stream) did.next did.event (config_of old) (state_of old) l.session l'.session p.sends notes p.mid did.read session_was p.decides };
          own = p.own;
          limit = sym (ap (λ (s : Session). s.frame_max) session_was);
          bounded = p.bounded;
          spelled = p.spelled;
          output = output_is ∙ p.put ∙ ap (λ (z : List ℕ). z ++ spelling l.session.frame_max p.sends) (sym output_was);
          pauses = subst (λ (v : Bool). Pauses (config_of old) mid c v (is_paused (world_of new) c) rest.hs (state_of new)) (sym past_was)
              (subst (λ (v : Bool). Pauses (config_of old) mid c false v rest.hs (state_of new)) (sym past_is) rest.pauses);
          config = same_config old new l l' b;
          others = λ d ne. b.wires d ∙ at_others (λ k. wire_of (connection_in old.connections k)) c d (wire_of (Some l')) ne;
          rests = λ d ne. b.sessions d ∙ at_others (λ k. session_of (connection_in old.connections k)) c d l'.session ne;
        };
        given = b.given;
        wire = wire_is ∙ wire_left (is_ended l'.session.phase) l' (under_session l'.session did.next) did.none_kept did.follows
            ∙ ap (λ (s : Session). wire_after s did.next l'.output.bytes) (sym session_is) ∙ ap (λ (z : List ℕ). wire_after (session_of (connection_in new.connections c)) did.next z) (sym output_is);
      },
    )

-- ---- nothing was performed

pub with_same : {A : Type 0} (f : ℕ → A) (n : ℕ) (a : A) → a ≡ f n → (d : ℕ) → with_one f n a d ≡ f d
with_same f n a e d = go (d == n) refl
  where
    go : (b : Bool) → (d == n) ≡ b → cond b a (f d) ≡ f d
    go true q = e ∙ ap f (sym (Rattle.std.proofs.lemmas.Bool.eqb-true d n q))
    go false q = refl

same_to_come : (k : Option Command) (s : Stream) → SameToCome k s k s
same_to_come None s = waits stays
same_to_come (Some m) s = still

-- what a connection has still to say, in the world
coming_in : (b : Bool) (l l' : Connection) → SameToCome (kept_of l.kept) (stream_of l.stream) (kept_of l'.kept) (stream_of l'.stream) → SameToCome (wire_in b l).kept (wire_in b l).stream (wire_in b l').kept (wire_in b l').stream
coming_in true l l' s = same_to_come None running_stream
coming_in false l l' s = s

pub waited : (old new : Parts) (l l' : Connection) → Becomes old l l' new → connection_in old.connections l.number ≡ Some l → ConnectionWaits (broker_of old.broker) l (broker_of new.broker) l' → Waits (world_of old) l.number (world_of new)
waited old new l l' b found w =
    let c = l.number in
    let sessions : (d : ℕ) → session_of (connection_in new.connections d) ≡ session_of (connection_in old.connections d) =
    λ d. b.sessions d ∙ with_same (λ k. session_of (connection_in old.connections k)) c l'.session (w.session ∙ sym (ap session_of found)) d in
    let wire_was : wire_of (connection_in old.connections c) ≡ wire_of (Some l) = ap wire_of found in
    let wire_is : wire_of (connection_in new.connections c) ≡ wire_of (Some l') = b.wires c ∙ at_own (λ d. wire_of (connection_in old.connections d)) c (wire_of (Some l')) in
    let phase : is_ended l'.session.phase ≡ is_ended l.session.phase = ap (λ (s : Session). is_ended s.phase) w.session in
    record {
      config = same_config old new l l' b;
      state = λ i. record { broker = w.broker i; session = λ d. sessions d i };
      given = b.given;
      others = λ d ne. b.wires d ∙ at_others (λ k. wire_of (connection_in old.connections k)) c d (wire_of (Some l')) ne;
      output = ap (λ (x : Wire). x.output) wire_is ∙ output_in (is_ended l'.session.phase) l' ∙ w.output ∙ sym (ap (λ (x : Wire). x.output) wire_was ∙ output_in (is_ended l.session.phase) l);
      coming = subst (λ (x : Wire). SameToCome x.kept x.stream (wire_of (connection_in new.connections c)).kept (wire_of (connection_in new.connections c)).stream) (sym wire_was)
          (subst (λ (x : Wire). SameToCome (wire_of (Some l)).kept (wire_of (Some l)).stream x.kept x.stream) (sym (wire_is ∙ ap (λ (v : Bool). wire_in v l') phase))
          (coming_in (is_ended l.session.phase) l l' w.coming));
    }

pub idle : (old : Parts) (l : Connection) → connection_in old.connections l.number ≡ Some l → l.kept ≡ None → Ends (stream_of l.stream) None → is_ended l.session.phase ≡ false → IsIdle (world_of old) l.number
idle old l found none ends open_still =
    let wire_was : wire_of (connection_in old.connections l.number) ≡ record { kept = kept_of l.kept; stream = stream_of l.stream; output = l.output.bytes } = ap wire_of found ∙ wire_open _ l open_still in
    record {
      none_kept = ap (λ (x : Wire). x.kept) wire_was ∙ ap kept_of none;
      ends = subst (λ (x : Wire). Ends x.stream None) (sym wire_was) ends;
    }

-- ---- output was taken

pub taken : (old new : Parts) (l l' : Connection) (n : ℕ) → Becomes old l l' new → connection_in old.connections l.number ≡ Some l
    → ConnectionSent (topology_kept old.broker) (broker_of old.broker) l n (broker_of new.broker) l'
    → (hs : List Happening) × TakesOutput (world_of old) l.number n hs (world_of new)
taken old new l l' n b found s =
    let c = l.number in
    let sessions : (d : ℕ) → session_of (connection_in new.connections d) ≡ session_of (connection_in old.connections d) =
    λ d. b.sessions d ∙ with_same (λ k. session_of (connection_in old.connections k)) c l'.session (s.session ∙ sym (ap session_of found)) d in
    let wire_was : wire_of (connection_in old.connections c) ≡ wire_of (Some l) = ap wire_of found in
    let wire_is : wire_of (connection_in new.connections c) ≡ wire_of (Some l') = b.wires c ∙ at_own (λ d. wire_of (connection_in old.connections d)) c (wire_of (Some l')) in
    let output_is : (wire_of (connection_in new.connections c)).output ≡ l'.output.bytes = ap (λ (x : Wire). x.output) wire_is ∙ output_in (is_ended l'.session.phase) l' in
    let output_was : (wire_of (connection_in old.connections c)).output ≡ l.output.bytes = ap (λ (x : Wire). x.output) wire_was ∙ output_in (is_ended l.session.phase) l in
    let phase : is_ended l'.session.phase ≡ is_ended l.session.phase = ap (λ (z : Session). is_ended z.phase) s.session in
    let dropped : wire_of (Some l') ≡ record (wire_of (connection_in old.connections c)) { output = drop n (wire_of (connection_in old.connections c)).output } =
    ap (λ (v : Bool). wire_in v l') phase ∙ drop_in (is_ended l.session.phase) l l' n s ∙ ap (λ (x : Wire). record x { output = drop n x.output }) (sym wire_was) in
    let rest : Ended (config_of old) (state_of old) c (is_past_bound l.output.bytes) (is_past_bound l'.output.bytes) (state_of new) = ended (config_of old) (state_of old) (state_of new) c (is_past_bound l.output.bytes) (is_past_bound l'.output.bytes) s.pauses sessions in (
      rest.hs,
      record {
        config = same_config old new l l' b;
        given = b.given;
        wires = λ d. b.wires d ∙ ap (λ (x : Wire). with_one (λ k. wire_of (connection_in old.connections k)) c x d) dropped;
        pauses = subst (λ (v : Bool). Pauses (config_of old) (state_of old) c v (is_paused (world_of new) c) rest.hs (state_of new)) (sym (ap is_past_bound output_was))
            (subst (λ (v : Bool). Pauses (config_of old) (state_of old) c (is_past_bound l.output.bytes) v rest.hs (state_of new)) (sym (ap is_past_bound output_is)) rest.pauses);
      },
    )
  where
    drop_in : (b : Bool) (l l' : Connection) (n : ℕ) → ConnectionSent (topology_kept old.broker) (broker_of old.broker) l n (broker_of new.broker) l' → wire_in b l' ≡ record (wire_in b l) { output = drop n (wire_in b l).output }
    drop_in true l l' n s = λ i. record new_wire { output = s.output i }
    drop_in false l l' n s = λ i. record { kept = kept_of (s.kept i); stream = stream_of (s.stream i); output = s.output i }

-- ---- bytes were heard

pub hears : (old new : Parts) (l l' : Connection) (bytes : List ℕ) → Becomes old l l' new → connection_in old.connections l.number ≡ Some l → broker_of new.broker ≡ broker_of old.broker → ConnectionFed l bytes l'
    → Hears (world_of old) l.number bytes (world_of new)
hears old new l l' bytes b found same fed = go (is_ended l.session.phase) refl
  where
    sessions : (d : ℕ) → session_of (connection_in new.connections d) ≡ session_of (connection_in old.connections d)
    sessions d = b.sessions d ∙ with_same (λ k. session_of (connection_in old.connections k)) l.number l'.session (fed.session ∙ sym (ap session_of found)) d

    phase : is_ended l'.session.phase ≡ is_ended l.session.phase
    phase = ap (λ (z : Session). is_ended z.phase) fed.session

    over_was : is_over (world_of old) l.number ≡ is_ended l.session.phase
    over_was = ap (λ (o : Option Connection). is_ended (session_of o).phase) found

    state_same : state_of new ≡ state_of old
    state_same = λ i. record { broker = same i; session = λ d. sessions d i }

    go : (v : Bool) → is_ended l.session.phase ≡ v → Hears (world_of old) l.number bytes (world_of new)
    go true e = subst (λ (v : Bool). MatchBool v (Same (world_of old) (world_of new)) (world_of new ≡ with_heard (world_of old) l.number bytes)) (sym (over_was ∙ e))
        (record {
          config = same_config old new l l' b;
          state = state_same;
          given = b.given;
          wires = λ d. b.wires d ∙ with_same (λ k. wire_of (connection_in old.connections k)) l.number (wire_of (Some l'))
              (ap (λ (v : Bool). wire_in v l') (phase ∙ e) ∙ ap (λ (z : List ℕ). record new_wire { output = z }) (ap (λ (o : WaitingBytes). o.bytes) fed.output) ∙ sym (ap wire_of found ∙ ap (λ (v : Bool). wire_in v l) e)) d;
        })
    go false e = subst (λ (v : Bool). MatchBool v (Same (world_of old) (world_of new)) (world_of new ≡ with_heard (world_of old) l.number bytes)) (sym (over_was ∙ e))
        (world_same (with_heard (world_of old) l.number bytes) (world_of new) (record {
          config = same_config old new l l' b;
          state = state_same;
          given = b.given;
          wires = λ d. b.wires d ∙ ap (λ (x : Wire). with_one (λ k. wire_of (connection_in old.connections k)) l.number x d) (heard_wire e);
        }))
      where
        heard_wire : is_ended l.session.phase ≡ false → wire_of (Some l') ≡ record (wire_of (connection_in old.connections l.number)) { stream = heard (wire_of (connection_in old.connections l.number)).stream bytes }
        heard_wire e =
            wire_open _ l' (phase ∙ e)
            ∙ (λ i. record { kept = kept_of (fed.kept i); stream = fed.stream e i; output = (fed.output i).bytes })
            ∙ ap (λ (x : Wire). record x { stream = heard x.stream bytes }) (sym (ap wire_of found ∙ wire_open _ l e))

-- ---- a loss

pub lost : (old new : Parts) (c : ℕ) → topology_kept new.broker ≡ topology_kept old.broker → new.guarantees ≡ old.guarantees → new.users ≡ old.users → new.given ≡ old.given
    → Acts (topology_kept old.broker) (broker_of old.broker) (event.Lose c) [] [] (broker_of new.broker)
    → ((d : ℕ) → connection_in new.connections d ≡ (if c == d then None else connection_in old.connections d))
    → (hs : List Happening) × Loses (world_of old) c hs (world_of new)
lost old new c t g u n acts connections =
    let h : Happening = record { config = config_of old; event = event.Lose c; before = state_of old; sends = []; notes = []; frame_max = 0; after = state_of new } in (
      h ∷ [],
      record {
        h = h;
        all = refl;
        happens = record { under = refl; event = refl; before = refl; after = refl; stepped = record { acts = acts; session = λ d. at_or session_of d (connections d) } };
        silent = refl;
        config = λ i. record { topology = t i; guarantees = g i; users = u i };
        given = n;
        wires = λ d. at_or wire_of d (connections d);
      },
    )
  where
    at_or : {A : Type 0} (F : Option Connection → A) (d : ℕ) → connection_in new.connections d ≡ cond (c == d) None (connection_in old.connections d) → F (connection_in new.connections d) ≡ with_one (λ k. F (connection_in old.connections k)) c (F None) d
    at_or F d e = either F old.connections new.connections c d None e
