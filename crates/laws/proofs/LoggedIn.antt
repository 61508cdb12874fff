-- A connection comes past its login only by one.
use Rattle.laws.proofs.Names.{◌≡◌, ℕ, List, [], ◌∷◌, Bool, true, false, cond, refl, sym, ap, subst, ◌∙◌, ◌==◌, MatchBool, bytes_eq, eqb-true, false≢true, Text, with_one, Session, Move, while_closing, faulted, after_sends, to_phase, LogsIn, MovesInOpening, IsAnswered, at_start, or_closed, on_zero, closes_with, answers_with, opening_move, start, eight_bytes, empty_publish, Config, State, Step, OfFirst, OfCommand, OfLarge, OfFault, is_past_login, ComesIn, User, Content, Method, ConnectionStartOk, ConnectionClose, ConnectionCloseOk, Event, Open, First, Running, Fault, Lose, Pause, Resume, Deliver, Phase, Send, Note}
use Rattle.std.proofs.Common.{Option}
use Rattle.std.specs.Prelude.{if◌then◌else◌}
use Rattle.model.specs.Login.{IsLogin}
use Rattle.model.specs.declared.events.Event.TheVariants.{Command, TooLarge}
use Rattle.model.specs.declared.events.Phase.TheVariants as phase
use Rattle.model.specs.declared.events.Send.TheVariants as send

-- ---- one move

-- this method is a login
abbrev IsLoginBy : List User → ℕ → Method → Type 0
IsLoginBy users h (ConnectionStartOk m) = (h ≡ 0) × IsLogin users m.mechanism m.response
IsLoginBy users h m = ⊥

-- it is a login where the connection is past one after this move
abbrev OnlyByLogin : List User → ℕ → Method → Move → Type 0
OnlyByLogin users h m move = is_past_login move.next.phase ≡ true → IsLoginBy users h m

by_start : (users : List User) (c : ℕ) (s : Session) (is_user : Bool) (h : ℕ) (m : Method) → h ≡ 0 → MatchBool is_user (LogsIn users phase.Start m) (LogsIn users phase.Start m → ⊥) → OnlyByLogin users h m (at_start c is_user s m)
by_start users c s true h (ConnectionStartOk m) zero login past = (zero, login)
by_start users c s false h (ConnectionStartOk m) zero login past = absurd (false≢true past)
by_start users c s is_user h _ zero login past = absurd (false≢true past)

or_close : (users : List User) (c : ℕ) (s : Session) (h : ℕ) (m : Method) (move : Move) → OnlyByLogin users h m move → OnlyByLogin users h m (or_closed c s m move)
or_close users c s h (ConnectionClose x) move by past = absurd (false≢true past)
or_close users c s h _ move by past = by past

at_zero : (users : List User) (c : ℕ) (s : Session) (h : ℕ) (m : Method) (move : Move) → (h ≡ 0 → OnlyByLogin users h m move) → OnlyByLogin users h m (on_zero c s h m move)
at_zero users c s h m move by = go (h == 0) refl
  where
    go : (v : Bool) → (h == 0) ≡ v → OnlyByLogin users h m (if v then or_closed c s m move else closes_with c s 503 m)
    go true e past = or_close users c s h m move (by (eqb-true h 0 e)) past
    go false e past = absurd (false≢true past)

-- in a phase that is not past the login
opens : (users : List User) (c : ℕ) (s : Session) (p : Phase) (is_user : Bool) (h : ℕ) (m : Method) → s.phase ≡ p → is_past_login p ≡ false → MatchBool is_user (LogsIn users p m) (LogsIn users p m → ⊥) → OnlyByLogin users h m (opening_move c is_user s p h m)
opens users c s phase.Start is_user h m here before login past = at_zero users c s h m (at_start c is_user s m) (λ zero. by_start users c s is_user h m zero login) past
opens users c s phase.Tune is_user h m here before login past = absurd (false≢true (sym before))
opens users c s phase.Open is_user h m here before login past = absurd (false≢true (sym before))
opens users c s phase.Running is_user h m here before login past = absurd (false≢true (sym before))
opens users c s phase.Header is_user h m here before login past = absurd (false≢true (sym (ap is_past_login here) ∙ past))
opens users c s phase.Closing is_user h m here before login past = absurd (false≢true (sym (ap is_past_login here) ∙ past))
opens users c s phase.Over is_user h m here before login past = absurd (false≢true (sym (ap is_past_login here) ∙ past))

moves_in : (users : List User) (c : ℕ) (s : Session) (h : ℕ) (m : Method) (move : Move) → is_past_login s.phase ≡ false → MovesInOpening users c s h m move → OnlyByLogin users h m move
moves_in users c s h m move before o = subst (OnlyByLogin users h m) (sym o.moved) (opens users c s s.phase o.is_user h m refl before o.login)

-- a move that leaves the phase, or ends in one that is not past the login
if_closing : (c : ℕ) (s : Session) (h : ℕ) (m : Method) → s.phase ≡ phase.Closing → is_past_login (while_closing c s h m).next.phase ≡ false
if_closing c s h (ConnectionClose x) here = elim (h == 0) as (λ v. is_past_login (if v then record { sends = Rattle.model.specs.Step.reply c 0 ConnectionCloseOk ∷ []; next = s } else Rattle.model.specs.Phases.stays_in s).next.phase ≡ false) [ true ↦ ap is_past_login here | false ↦ ap is_past_login here ]
if_closing c s h ConnectionCloseOk here = elim (h == 0) as (λ v. is_past_login (if v then record { sends = []; next = to_phase s phase.Over } else Rattle.model.specs.Phases.stays_in s).next.phase ≡ false) [ true ↦ refl | false ↦ ap is_past_login here ]
if_closing c s h _ here = ap is_past_login here

-- whatever the phase answers
answered_so : (users : List User) (c : ℕ) (s : Session) (p : Phase) (h : ℕ) (m : Method) (move : Move) → s.phase ≡ p → is_past_login s.phase ≡ false → IsAnswered users c s p h m move → OnlyByLogin users h m move
answered_so users c s phase.Closing h m move here before e past = absurd (false≢true (sym (ap (λ (z : Move). is_past_login z.next.phase) e ∙ if_closing c s h m here) ∙ past))
answered_so users c s phase.Header h m move here before o past = moves_in users c s h m move before o past
answered_so users c s phase.Start h m move here before o past = moves_in users c s h m move before o past
answered_so users c s phase.Tune h m move here before o past = moves_in users c s h m move before o past
answered_so users c s phase.Open h m move here before o past = moves_in users c s h m move before o past
answered_so users c s phase.Running h m move here before o past = moves_in users c s h m move before o past
answered_so users c s phase.Over h m move here before o past = moves_in users c s h m move before o past

-- ---- one step

module _ (f : Config) (old new : State) (e : Event) (sends : List Send) (notes : List Note) where
  -- whoever is past the login after the event, and was not before it, logged in by it
  abbrev Enters : Type 0
  Enters = (d : ℕ) → is_past_login (old.session d).phase ≡ false → is_past_login (new.session d).phase ≡ true → ComesIn f.users e d

  -- one session is this now
  of_one : (c : ℕ) (s : Session) → ((d : ℕ) → new.session d ≡ with_one old.session c s d) → (is_past_login (old.session c).phase ≡ false → is_past_login s.phase ≡ true → ComesIn f.users e c) → Enters
  of_one c s sessions by d before past = go (d == c) refl (sym (ap (λ (z : Session). is_past_login z.phase) (sessions d)) ∙ past)
    where
      go : (v : Bool) → (d == c) ≡ v → is_past_login (cond v s (old.session d)).phase ≡ true → ComesIn f.users e d
      go true same is = let at = eqb-true d c same in subst (ComesIn f.users e) (sym at) (by (ap (λ (n : ℕ). is_past_login (old.session n).phase) (sym at) ∙ before) is)
      go false same is = absurd (false≢true (sym before ∙ is))

  -- the connection was past the login before
  was_past : (c : ℕ) (s : Session) → ((d : ℕ) → new.session d ≡ with_one old.session c s d) → (old.session c).phase ≡ phase.Running → Enters
  was_past c s sessions running = of_one c s sessions (λ before past. absurd (false≢true (sym before ∙ ap is_past_login running)))

  -- or is not past it after
  not_past : (c : ℕ) (s : Session) → ((d : ℕ) → new.session d ≡ with_one old.session c s d) → is_past_login s.phase ≡ false → Enters
  not_past c s sessions none = of_one c s sessions (λ before past. absurd (false≢true (sym none ∙ past)))

  -- or stays where it was
  same : ((d : ℕ) → new.session d ≡ old.session d) → Enters
  same sessions d before past = absurd (false≢true (sym before ∙ sym (ap (λ (z : Session). is_past_login z.phase) (sessions d)) ∙ past))

-- this event is that of the method
by_method : (users : List User) (c h : ℕ) (m : Method) (content : Option Content) → IsLoginBy users h m → ComesIn users (Command c h m content) c
by_method users c h (ConnectionStartOk m) content login = (refl, login.0, login.1)
by_method users c h _ content login = absurd login

of_command : (f : Config) (old new : State) (sends : List Send) (notes : List Note) (p : Phase) (c h : ℕ) (m : Method) (content : Option Content) → (old.session c).phase ≡ p → OfCommand f old p c h m content sends notes new → Enters f old new (Command c h m content) sends notes
of_command f old new sends notes phase.Running c h m content here s = was_past f old new (Command c h m content) sends notes c _ s.session here
of_command f old new sends notes p c h m content here s = of_one f old new (Command c h m content) sends notes c s.move.next s.moves.session (λ before past. by_method f.users c h m content (answered_so f.users c (old.session c) p h m s.move here before s.answered past))

of_large : (f : Config) (old new : State) (sends : List Send) (notes : List Note) (p : Phase) (c h : ℕ) → (old.session c).phase ≡ p → OfLarge f old p c h sends notes new → Enters f old new (TooLarge c h) sends notes
of_large f old new sends notes phase.Running c h here s = was_past f old new (TooLarge c h) sends notes c _ s.session here
of_large f old new sends notes p c h here s = of_one f old new (TooLarge c h) sends notes c s.move.next s.moves.session (λ before past. absurd (answered_so f.users c (old.session c) p h empty_publish s.move here before s.answered past))

of_fault : (f : Config) (old new : State) (sends : List Send) (notes : List Note) (p : Phase) (c code : ℕ) → (old.session c).phase ≡ p → OfFault f old p c code sends notes new → Enters f old new (Fault c code) sends notes
of_fault f old new sends notes phase.Running c code here s = was_past f old new (Fault c code) sends notes c _ s.session here
of_fault f old new sends notes phase.Over c code here s = not_past f old new (Fault c code) sends notes c _ s.session (ap is_past_login here)
of_fault f old new sends notes _ c code here s = not_past f old new (Fault c code) sends notes c _ s.session refl

of_first : (f : Config) (old new : State) (sends : List Send) (notes : List Note) (p : Phase) (c : ℕ) (bytes : Text) → (old.session c).phase ≡ p → OfFirst f old p c bytes sends notes new → Enters f old new (First c bytes) sends notes
of_first f old new sends notes phase.Running c bytes here s = was_past f old new (First c bytes) sends notes c _ s.session here
of_first f old new sends notes phase.Header c bytes here s = not_past f old new (First c bytes) sends notes c _ s.session (by (bytes_eq bytes eight_bytes))
  where
    by : (v : Bool) → is_past_login (if v then answers_with c (old.session c) start phase.Start else record { sends = send.Greeting c ∷ []; next = to_phase (old.session c) phase.Over }).next.phase ≡ false
    by true = refl
    by false = refl
of_first f old new sends notes _ c bytes here s = of_one f old new (First c bytes) sends notes c _ s.session (λ before past. absurd (false≢true (sym before ∙ past)))

-- Each step lets a connection past the login only by one.
pub step_enters : (f : Config) (old new : State) (sends : List Send) (notes : List Note) (e : Event) → Step f old e sends notes new → Enters f old new e sends notes
step_enters f old new sends notes (Open c) s = not_past f old new (Open c) sends notes c _ s.steps.session refl
step_enters f old new sends notes (First c bytes) s = of_first f old new sends notes (old.session c).phase c bytes refl s
step_enters f old new sends notes (Running c max k) s = of_one f old new (Running c max k) sends notes c _ s.session (λ before past. refl)
step_enters f old new sends notes (Command c h m content) s = of_command f old new sends notes (old.session c).phase c h m content refl s
step_enters f old new sends notes (TooLarge c h) s = of_large f old new sends notes (old.session c).phase c h refl s
step_enters f old new sends notes (Fault c code) s = of_fault f old new sends notes (old.session c).phase c code refl s
step_enters f old new sends notes (Lose c) s = not_past f old new (Lose c) sends notes c _ s.session refl
step_enters f old new sends notes (Pause c) s = same f old new (Pause c) sends notes s.session
step_enters f old new sends notes (Resume c) s = same f old new (Resume c) sends notes s.session
step_enters f old new sends notes (Deliver c) s = same f old new (Deliver c) sends notes s.session
