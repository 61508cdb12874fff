-- Which connections the broker has, which of them are paused, and how many channels each may have: after each event as the sessions and the outputs say.
use Rattle.laws.proofs.Names.{◌≡◌, ◌≢◌, ℕ, List, Bool, true, false, cond, None, refl, sym, ap, subst, ◌∙◌, inl, inr, is_some, ◌==◌, eqb-true, eqb-false, false≢true, Broker, Connection, with_one, Session, is_running, after_sends, to_phase, Config, State, Step, paused, opened, Pauses, Reads, again, fresh, fault, event_of, Stream, Note, Send, Phase, Head, Plain, Full, Event, event_connection}
use Rattle.std.proofs.Common.{Option, Some, if◌then◌else◌}
use Rattle.model.specs.declared.events.Phase.TheVariants as phase
use Rattle.model.specs.declared.events.Command.{Command}
use Rattle.model.specs.declared.events.Command.TheVariants.{TooLarge}
use Rattle.model.specs.declared.events.Event.TheVariants as event
use Rattle.laws.proofs.Deeds.{connection_after, with_same, acted}
use Rattle.laws.proofs.View.{session_after, is_read, is_opening, Performed, Answered, goes}

-- ---- one value changed

pub with_here : {A : Type 0} (f : ℕ → A) (n : ℕ) (a : A) → with_one f n a n ≡ a
with_here f n a = ap (λ (b : Bool). cond b a (f n)) (Rattle.std.proofs.lemmas.Bool.eq-eqb n n refl)

-- a function that is another one with one value changed, from its value there and its values elsewhere
pub with_by : {A : Type 0} (f g : ℕ → A) (n : ℕ) → ((d : ℕ) → d ≢ n → g d ≡ f d) → (d : ℕ) → with_one f n (g n) d ≡ g d
with_by f g n others d = go (d == n) refl
  where
    go : (b : Bool) → (d == n) ≡ b → cond b (g n) (f d) ≡ g d
    go true q = ap g (sym (eqb-true d n q))
    go false q = sym (others d (eqb-false d n q))

-- ---- phases and flags

-- the broker has the connections that are in Running, knows those as paused that are, and has the channel-max of each
pub record Agrees (b : Broker) (sessions : ℕ → Session) (is_paused : ℕ → Bool) : Type 0 where
  pub running : (d : ℕ) → is_some (b.connection d) ≡ is_running (sessions d).phase
  pub paused : (d : ℕ) (conn : Connection) → b.connection d ≡ Some conn → conn.is_paused ≡ is_paused d
  pub limits : (d : ℕ) (conn : Connection) → b.connection d ≡ Some conn → conn.channel_max ≡ (sessions d).channel_max

-- one connection changed, which is there exactly while it runs
running_with : (old new : Broker) (sessions after : ℕ → Session) (c : ℕ) (o : Option Connection) (s : Session) → ((d : ℕ) → is_some (old.connection d) ≡ is_running (sessions d).phase)
    → ((d : ℕ) → new.connection d ≡ with_one old.connection c o d) → ((d : ℕ) → after d ≡ with_one sessions c s d) → is_some o ≡ is_running s.phase → (d : ℕ) → is_some (new.connection d) ≡ is_running (after d).phase
running_with old new sessions after c o s running connections are runs d = ap is_some (connections d) ∙ one (d == c) ∙ sym (ap (λ (z : Session). is_running z.phase) (are d))
  where
    one : (v : Bool) → is_some (cond v o (old.connection d)) ≡ is_running (cond v s (sessions d)).phase
    one true = runs
    one false = running d

-- one connection changed, and agrees
agrees_with : (old new : Broker) (sessions after : ℕ → Session) (p q : ℕ → Bool) (c : ℕ) (o : Option Connection) (s : Session) → Agrees old sessions p
    → ((d : ℕ) → new.connection d ≡ with_one old.connection c o d) → ((d : ℕ) → after d ≡ with_one sessions c s d) → ((d : ℕ) → with_one p c (q c) d ≡ q d)
    → is_some o ≡ is_running s.phase → ((conn : Connection) → o ≡ Some conn → conn.is_paused ≡ q c) → ((conn : Connection) → o ≡ Some conn → conn.channel_max ≡ s.channel_max) → Agrees new after q
agrees_with old new sessions after p q c o s a connections are flags runs flag limit = record {
  running = running_with old new sessions after c o s a.running connections are runs;
  paused = λ d conn e. each d conn (d == c) (sym (connections d) ∙ e) ∙ flags d;
  limits = λ d conn e. each_limit d conn (d == c) (sym (connections d) ∙ e) ∙ sym (ap (λ (z : Session). z.channel_max) (are d));
}
  where
    each : (d : ℕ) (conn : Connection) (v : Bool) → cond v o (old.connection d) ≡ Some conn → conn.is_paused ≡ cond v (q c) (p d)
    each d conn true e = flag conn e
    each d conn false e = a.paused d conn e

    each_limit : (d : ℕ) (conn : Connection) (v : Bool) → cond v o (old.connection d) ≡ Some conn → conn.channel_max ≡ (cond v s (sessions d)).channel_max
    each_limit d conn true e = limit conn e
    each_limit d conn false e = a.limits d conn e

none_is_some : {A : Type 0} (P : Type 0) (x : A) → None ≡ Some x → P
none_is_some P x e = absurd (false≢true (ap is_some e))

-- a connection that ran is there exactly while it runs on
runs_on : (p : Phase) (o : Option Connection) (s : Session) → is_some o ≡ true → is_some (cond (is_running p) o None) ≡ is_running (to_phase s p).phase
runs_on phase.Header o s e = refl
runs_on phase.Start o s e = refl
runs_on phase.Tune o s e = refl
runs_on phase.Open o s e = refl
runs_on phase.Running o s e = e
runs_on phase.Closing o s e = refl
runs_on phase.Over o s e = refl

-- one that runs on keeps its limits
limit_on : (p : Phase) (o : Option Connection) (s : Session) (conn : Connection) → (o ≡ Some conn → conn.channel_max ≡ s.channel_max) → cond (is_running p) o None ≡ Some conn → conn.channel_max ≡ (to_phase s p).channel_max
limit_on phase.Header o s conn was e = none_is_some _ conn e
limit_on phase.Start o s conn was e = none_is_some _ conn e
limit_on phase.Tune o s conn was e = none_is_some _ conn e
limit_on phase.Open o s conn was e = none_is_some _ conn e
limit_on phase.Running o s conn was e = was e
limit_on phase.Closing o s conn was e = none_is_some _ conn e
limit_on phase.Over o s conn was e = none_is_some _ conn e

-- the channel-max of a connection, where there is one
abbrev limit_of : Option Connection → ℕ
limit_of None = 0
limit_of (Some conn) = conn.channel_max

-- a pause changes no limits
paused_limit : (b : Bool) (o : Option Connection) (s : Session) → ((conn : Connection) → o ≡ Some conn → conn.channel_max ≡ s.channel_max) → (conn : Connection) → paused b o ≡ Some conn → conn.channel_max ≡ s.channel_max
paused_limit b None s was conn e = none_is_some _ conn e
paused_limit b (Some k) s was conn e = sym (ap limit_of e) ∙ was k refl

-- the flag of a connection, where there is one
abbrev flag_of : Option Connection → Bool
flag_of None = false
flag_of (Some conn) = conn.is_paused

some_flag : (b : Bool) (o : Option Connection) → is_some (paused b o) ≡ is_some o
some_flag b None = refl
some_flag b (Some conn) = refl

flagged : (b : Bool) (o : Option Connection) (conn : Connection) → paused b o ≡ Some conn → conn.is_paused ≡ b
flagged b None conn e = none_is_some _ conn e
flagged b (Some k) conn e = sym (ap flag_of e)

-- ---- after each step

-- what an event makes of the flag of its connection: what is read is of one that is not paused
abbrev pub IsFlagAfter : Event → Bool → Bool → Type 0
IsFlagAfter (event.Open c) was is = Unit {0}
IsFlagAfter (event.First c bytes) was is = (was ≡ false) × (is ≡ false)
IsFlagAfter (event.Running c max k) was is = is ≡ false
IsFlagAfter (event.Command c h m content) was is = (was ≡ false) × (is ≡ false)
IsFlagAfter (event.TooLarge c h) was is = (was ≡ false) × (is ≡ false)
IsFlagAfter (event.Fault c code) was is = (was ≡ false) × (is ≡ false)
IsFlagAfter (event.Lose c) was is = Unit {0}
IsFlagAfter (event.Pause c) was is = is ≡ true
IsFlagAfter (event.Resume c) was is = is ≡ false
IsFlagAfter (event.Deliver c) was is = is ≡ was

awake_after : (e : Event) (was is : Bool) → is_read e ≡ true → IsFlagAfter e was is → is ≡ false
awake_after (event.Open c) was is read x = absurd (false≢true read)
awake_after (event.Running c max k) was is read x = x
awake_after (event.Lose c) was is read x = absurd (false≢true read)
awake_after (event.Pause c) was is read x = absurd (false≢true read)
awake_after (event.Resume c) was is read x = x
awake_after (event.Deliver c) was is read x = absurd (false≢true read)
awake_after _ was is read x = x.1

-- its connection is there exactly while it runs
module _ (b : Broker) (sessions : ℕ → Session) (sends : List Send) (running : (d : ℕ) → is_some (b.connection d) ≡ is_running (sessions d).phase) where
  runs_after : (e : Event) → (is_read e ≡ true → is_running (sessions (event_connection e)).phase ≡ true) → (is_opening e ≡ true → is_running (sessions (event_connection e)).phase ≡ false) → is_some (connection_after b e sends) ≡ is_running (session_after (sessions (event_connection e)) e sends).phase
  runs_after (event.Open c) runs free = running c ∙ free refl
  runs_after (event.First c bytes) runs free = runs_on (after_sends sends) (b.connection c) (sessions c) (running c ∙ runs refl)
  runs_after (event.Command c h m content) runs free = runs_on (after_sends sends) (b.connection c) (sessions c) (running c ∙ runs refl)
  runs_after (event.TooLarge c h) runs free = runs_on (after_sends sends) (b.connection c) (sessions c) (running c ∙ runs refl)
  runs_after (event.Pause c) runs free = some_flag true (b.connection c) ∙ running c
  runs_after (event.Resume c) runs free = some_flag false (b.connection c) ∙ running c
  runs_after (event.Deliver c) runs free = running c
  runs_after _ runs free = refl

module _ (b : Broker) (sessions : ℕ → Session) (p : ℕ → Bool) (sends : List Send) (a : Agrees b sessions p) where
  kept_flag : (c : ℕ) (v is : Bool) (conn : Connection) → (p c ≡ false) × (is ≡ false) → cond v (b.connection c) None ≡ Some conn → conn.is_paused ≡ is
  kept_flag c true is conn x e = a.paused c conn e ∙ x.0 ∙ sym x.1
  kept_flag c false is conn x e = none_is_some _ conn e

  flag_after : (e : Event) (is : Bool) → IsFlagAfter e (p (event_connection e)) is → (is_opening e ≡ true → is_running (sessions (event_connection e)).phase ≡ false) → (conn : Connection) → connection_after b e sends ≡ Some conn → conn.is_paused ≡ is
  flag_after (event.Open c) is x free conn e = absurd (false≢true (sym (a.running c ∙ free refl) ∙ ap is_some e))
  flag_after (event.First c bytes) is x free conn e = kept_flag c (is_running (after_sends sends)) is conn x e
  flag_after (event.Running c max k) is x free conn e = sym (ap flag_of e) ∙ sym x
  flag_after (event.Command c h m content) is x free conn e = kept_flag c (is_running (after_sends sends)) is conn x e
  flag_after (event.TooLarge c h) is x free conn e = kept_flag c (is_running (after_sends sends)) is conn x e
  flag_after (event.Pause c) is x free conn e = flagged true (b.connection c) conn e ∙ sym x
  flag_after (event.Resume c) is x free conn e = flagged false (b.connection c) conn e ∙ sym x
  flag_after (event.Deliver c) is x free conn e = a.paused c conn e ∙ sym x
  flag_after _ is x free conn e = none_is_some _ conn e

  -- its limits are those of its session
  limit_after : (e : Event) → (is_opening e ≡ true → is_running (sessions (event_connection e)).phase ≡ false) → (conn : Connection) → connection_after b e sends ≡ Some conn → conn.channel_max ≡ (session_after (sessions (event_connection e)) e sends).channel_max
  limit_after (event.Open c) free conn e = absurd (false≢true (sym (a.running c ∙ free refl) ∙ ap is_some e))
  limit_after (event.First c bytes) free conn e = limit_on (after_sends sends) (b.connection c) (sessions c) conn (a.limits c conn) e
  limit_after (event.Running c max k) free conn e = sym (ap limit_of e)
  limit_after (event.Command c h m content) free conn e = limit_on (after_sends sends) (b.connection c) (sessions c) conn (a.limits c conn) e
  limit_after (event.TooLarge c h) free conn e = limit_on (after_sends sends) (b.connection c) (sessions c) conn (a.limits c conn) e
  limit_after (event.Pause c) free conn e = paused_limit true (b.connection c) (sessions c) (a.limits c) conn e
  limit_after (event.Resume c) free conn e = paused_limit false (b.connection c) (sessions c) (a.limits c) conn e
  limit_after (event.Deliver c) free conn e = a.limits c conn e
  limit_after _ free conn e = none_is_some _ conn e

-- Each step leaves a connection there exactly while it runs.
pub step_running : (f : Config) (old new : State) (e : Event) (sends : List Send) (notes : List Note) → Step f old e sends notes new → ((d : ℕ) → is_some (old.broker.connection d) ≡ is_running (old.session d).phase)
    → (d : ℕ) → is_some (new.broker.connection d) ≡ is_running (new.session d).phase
step_running f old new e sends notes s running = elim (goes f old new sends notes e s) [ inl done ↦ performed done | inr moved ↦ answered moved ]
  where
    performed : Performed f old e sends notes new → (d : ℕ) → is_some (new.broker.connection d) ≡ is_running (new.session d).phase
    performed p = running_with old.broker new.broker old.session new.session (event_connection e) _ _ running (acted f.topology old.broker new.broker sends notes e p.acts).connections p.sessions (runs_after old.broker old.session sends running e p.runs p.free)

    answered : Answered old e sends notes new → (d : ℕ) → is_some (new.broker.connection d) ≡ is_running (new.session d).phase
    answered p = go (is_running p.move.next.phase) refl p.moves.broker.connections
      where
        c : ℕ
        c = event_connection e

        go : (v : Bool) → is_running p.move.next.phase ≡ v → ((d : ℕ) → new.broker.connection d ≡ (if v then opened old.broker c p.move.next.channel_max 0 else old.broker).connection d) → (d : ℕ) → is_some (new.broker.connection d) ≡ is_running (new.session d).phase
        go true is connections = running_with old.broker new.broker old.session new.session c _ p.move.next running connections p.moves.session (sym is)
        go false is connections =
            running_with old.broker new.broker old.session new.session c (old.broker.connection c) p.move.next running
            (λ d. connections d ∙ sym (with_same old.broker.connection c (old.broker.connection c) refl d)) p.moves.session (running c ∙ p.idle ∙ sym is)

module _ (f : Config) (old new : State) (e : Event) (sends : List Send) (notes : List Note) (p q : ℕ → Bool) (a : Agrees old.broker old.session p)
    (others : (d : ℕ) → d ≢ event_connection e → q d ≡ p d) (flag : IsFlagAfter e (p (event_connection e)) (q (event_connection e))) where
  agrees_performed : Performed f old e sends notes new → Agrees new.broker new.session q
  agrees_performed s =
      agrees_with old.broker new.broker old.session new.session p q (event_connection e) _ _ a (acted f.topology old.broker new.broker sends notes e s.acts).connections s.sessions (with_by p q (event_connection e) others)
      (runs_after old.broker old.session sends a.running e s.runs s.free) (flag_after old.broker old.session p sends a e (q (event_connection e)) flag s.free)
      (limit_after old.broker old.session p sends a e s.free)

  -- a move of the phases alone
  agrees_answered : Answered old e sends notes new → Agrees new.broker new.session q
  agrees_answered s = go (is_running s.move.next.phase) refl s.moves.broker.connections
    where
      c : ℕ
      c = event_connection e

      go : (v : Bool) → is_running s.move.next.phase ≡ v → ((d : ℕ) → new.broker.connection d ≡ (if v then opened old.broker c s.move.next.channel_max 0 else old.broker).connection d) → Agrees new.broker new.session q
      go true is connections = agrees_with old.broker new.broker old.session new.session p q c _ s.move.next a connections s.moves.session (with_by p q c others) (sym is)
          (λ conn k. sym (ap flag_of k) ∙ sym (awake_after e (p c) (q c) s.read flag)) (λ conn k. sym (ap limit_of k))
      go false is connections = agrees_with old.broker new.broker old.session new.session p q c (old.broker.connection c) s.move.next a
          (λ d. connections d ∙ sym (with_same old.broker.connection c (old.broker.connection c) refl d)) s.moves.session (with_by p q c others) (a.running c ∙ s.idle ∙ sym is)
          (λ conn k. absurd (false≢true (sym (a.running c ∙ s.idle) ∙ ap is_some k))) (λ conn k. absurd (false≢true (sym (a.running c ∙ s.idle) ∙ ap is_some k)))

  -- Each step leaves it so.
  pub step_agrees : Step f old e sends notes new → Agrees new.broker new.session q
  step_agrees s = elim (goes f old new sends notes e s) [ inl done ↦ agrees_performed done | inr moved ↦ agrees_answered moved ]

of_command_agrees : (m : Command) (f : Config) (old new : State) (c : ℕ) (sends : List Send) (notes : List Note) (p : ℕ → Bool) → Agrees old.broker old.session p → p c ≡ false → Step f old (event_of c m) sends notes new → Agrees new.broker new.session p
of_command_agrees (Head bytes) f old new c sends notes p a awake s = step_agrees f old new (event_of c (Head bytes)) sends notes p p a (λ d ne. refl) (awake, awake) s
of_command_agrees (Plain h m) f old new c sends notes p a awake s = step_agrees f old new (event_of c (Plain h m)) sends notes p p a (λ d ne. refl) (awake, awake) s
of_command_agrees (Full h x content) f old new c sends notes p a awake s = step_agrees f old new (event_of c (Full h x content)) sends notes p p a (λ d ne. refl) (awake, awake) s
of_command_agrees (TooLarge h) f old new c sends notes p a awake s = step_agrees f old new (event_of c (TooLarge h)) sends notes p p a (λ d ne. refl) (awake, awake) s

-- What is read of a connection that is not paused is performed so that all agrees still.
pub read_agrees : (c : ℕ) (k : Option Command) (st nx : Stream) (e : Event) (f : Config) (old new : State) (sends : List Send) (notes : List Note) (p : ℕ → Bool) → Reads c k st e nx
    → Agrees old.broker old.session p → p c ≡ false → Step f old e sends notes new → Agrees new.broker new.session p
read_agrees c k st nx e f old new sends notes p (again {m = m}) a awake s = of_command_agrees m f old new c sends notes p a awake s
read_agrees c k st nx e f old new sends notes p (fresh {m = m} y) a awake s = of_command_agrees m f old new c sends notes p a awake s
read_agrees c k st nx e f old new sends notes p (fault {code = code} y) a awake s = step_agrees f old new (event.Fault c code) sends notes p p a (λ d ne. refl) (awake, awake) s

-- ---- pauses

agrees_as : (mid new : State) (p q : ℕ → Bool) → Agrees mid.broker mid.session p → new ≡ mid → ((d : ℕ) → p d ≡ q d) → Agrees new.broker new.session q
agrees_as mid new p q a same flags = subst (λ (z : State). Agrees z.broker z.session q) (sym same) (record { running = a.running; paused = λ d conn e. a.paused d conn e ∙ flags d; limits = a.limits })

-- The pause or resumption that an output brings makes the broker agree with it.
pub settled_agrees : (f : Config) (mid new : State) (c : ℕ) (was is : Bool) (hs : List _) (p q : ℕ → Bool) → Pauses f mid c was is hs new → Agrees mid.broker mid.session p → p c ≡ was → q c ≡ is
    → ((d : ℕ) → d ≢ c → q d ≡ p d) → Agrees new.broker new.session q
settled_agrees f mid new c false true hs p q (h, all, s) a was is others = step_agrees f mid new (event.Pause c) h.sends h.notes p q a others is s.stepped
settled_agrees f mid new c true false hs p q (h, all, s) a was is others = step_agrees f mid new (event.Resume c) h.sends h.notes p q a others is s.stepped
settled_agrees f mid new c true true hs p q s a was is others = agrees_as mid new p q a s.1 (λ d. sym (with_same p c (q c) (is ∙ sym was) d) ∙ with_by p q c others d)
settled_agrees f mid new c false false hs p q s a was is others = agrees_as mid new p q a s.1 (λ d. sym (with_same p c (q c) (is ∙ sym was) d) ∙ with_by p q c others d)
