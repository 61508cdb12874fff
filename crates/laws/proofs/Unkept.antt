-- Outside Running, and on a channel that is not open, a publish and one whose content is too large have the same answer: no phase looks at what is published.
use Rattle.laws.proofs.Names.{◌≡◌, ◌⊎◌, ℕ, List, Bool, true, false, refl, ◌∙◌, sym, subst, inl, inr, None, MatchBool, ◌==◌, nat_lt, false≢true, Session, Move, is_running, LogsIn, MovesInOpening, IsAnswered, opening_move, Config, State, AnswersBy, OfCommand, OfLarge, Topology, Broker, Channel, Connection, Refusal, Of_connection, OnConnection, OnLarge, refusal, refusal_of_large, Content, Send, Note, no_publish, User, BasicPublish, Phase}
use Rattle.std.proofs.Common.{Option, Some}
use Rattle.std.specs.Prelude.{if◌then◌else◌}
use Rattle.model.specs.Step.{Decides}
use Rattle.model.specs.declared.methods.Publish.{Publish}
use Rattle.model.specs.declared.events.Phase.TheVariants as phase
use Rattle.laws.specs.Unkept.{UnkeptIsUnseen}

-- a publish is no login
logs_alike : (users : List User) (a b : Publish) (q : Phase) → LogsIn users q (BasicPublish a) → LogsIn users q (BasicPublish b)
logs_alike users a b phase.Header l = l
logs_alike users a b phase.Start l = l
logs_alike users a b phase.Tune l = l
logs_alike users a b phase.Open l = l
logs_alike users a b phase.Running l = l
logs_alike users a b phase.Closing l = l
logs_alike users a b phase.Over l = l

moves_alike : (c : ℕ) (is_user : Bool) (s : Session) (h : ℕ) (a b : Publish) (q : Phase) → opening_move c is_user s q h (BasicPublish a) ≡ opening_move c is_user s q h (BasicPublish b)
moves_alike c is_user s h a b phase.Header = refl
moves_alike c is_user s h a b phase.Start = refl
moves_alike c is_user s h a b phase.Tune = refl
moves_alike c is_user s h a b phase.Open = refl
moves_alike c is_user s h a b phase.Running = refl
moves_alike c is_user s h a b phase.Closing = refl
moves_alike c is_user s h a b phase.Over = refl

judged_alike : (users : List User) (a b : Publish) (q : Phase) (is_user : Bool) → MatchBool is_user (LogsIn users q (BasicPublish a)) (LogsIn users q (BasicPublish a) → ⊥)
    → MatchBool is_user (LogsIn users q (BasicPublish b)) (LogsIn users q (BasicPublish b) → ⊥)
judged_alike users a b q true l = logs_alike users a b q l
judged_alike users a b q false n = λ l. n (logs_alike users b a q l)

opened_alike : (users : List User) (c h : ℕ) (s : Session) (move : Move) (a b : Publish) → MovesInOpening users c s h (BasicPublish a) move → MovesInOpening users c s h (BasicPublish b) move
opened_alike users c h s move a b m = record {
  is_user = m.is_user;
  login = judged_alike users a b s.phase m.is_user m.login;
  moved = m.moved ∙ moves_alike c m.is_user s h a b s.phase;
}

answered_alike : (users : List User) (c h : ℕ) (s : Session) (move : Move) (a b : Publish) (q : Phase) → IsAnswered users c s q h (BasicPublish a) move → IsAnswered users c s q h (BasicPublish b) move
answered_alike users c h s move a b phase.Header m = opened_alike users c h s move a b m
answered_alike users c h s move a b phase.Start m = opened_alike users c h s move a b m
answered_alike users c h s move a b phase.Tune m = opened_alike users c h s move a b m
answered_alike users c h s move a b phase.Open m = opened_alike users c h s move a b m
answered_alike users c h s move a b phase.Running m = opened_alike users c h s move a b m
answered_alike users c h s move a b phase.Closing m = m
answered_alike users c h s move a b phase.Over m = opened_alike users c h s move a b m

-- ---- on a channel that is not open

refused_alike : (z l : Bool) → (if z then Some (Of_connection 503) else if l then Some (Of_connection 504) else Some (Of_connection 504)) ≡ Some (if z then Of_connection 503 else if l then Of_connection 504 else Of_connection 504)
refused_alike true l = refl
refused_alike false true = refl
refused_alike false false = refl

module _ (t : Topology) (old new : Broker) (c h : ℕ) (p : Publish) (content : Option Content) (sends : List Send) (notes : List Note) (shut : old.channel c h ≡ None) where
  -- both are refused alike
  refused : (conn : Connection) → refusal t old conn h (BasicPublish p) (old.channel c h) ≡ Some (refusal_of_large conn h (old.channel c h))
  refused conn = subst (λ (ch : Option Channel). refusal t old conn h (BasicPublish p) ch ≡ Some (refusal_of_large conn h ch)) (sym shut) (refused_alike (h == 0) (nat_lt conn.channel_max h))

  shut_to : (o : Option Connection) → OnConnection t old c h (BasicPublish p) content sends notes new o → OnLarge old c h sends notes new o
  shut_to None d = d
  shut_to (Some conn) d = subst (λ (r : Option Refusal). Decides t old c h (BasicPublish p) content r sends notes new) (refused conn) d

  shut_from : (o : Option Connection) → OnLarge old c h sends notes new o → OnConnection t old c h (BasicPublish p) content sends notes new o
  shut_from None d = d
  shut_from (Some conn) d = subst (λ (r : Option Refusal). Decides t old c h (BasicPublish p) content r sends notes new) (sym (refused conn)) d

-- ---- all phases

module _ (f : Config) (old new : State) (c h : ℕ) (p : Publish) (content : Option Content) (sends : List Send) (notes : List Note) where
  abbrev Alike : Phase → Type 0
  Alike q =
      (OfCommand f old q c h (BasicPublish p) content sends notes new → OfLarge f old q c h sends notes new)
      × (OfLarge f old q c h sends notes new → OfCommand f old q c h (BasicPublish p) content sends notes new)

  answers : (q : Phase) (a b : Publish) → AnswersBy f.users old q c h (BasicPublish a) sends notes new → AnswersBy f.users old q c h (BasicPublish b) sends notes new
  answers q a b x = record { move = x.move; answered = answered_alike f.users c h (old.session c) x.move a b q x.answered; moves = x.moves }

  running_alike : old.broker.channel c h ≡ None → Alike phase.Running
  running_alike shut = (
    λ s. record { acts = shut_to f.topology old.broker new.broker c h p content sends notes shut (old.broker.connection c) s.acts; session = s.session },
    λ s. record { acts = shut_from f.topology old.broker new.broker c h p content sends notes shut (old.broker.connection c) s.acts; session = s.session },
  )

  by : (q : Phase) → (is_running q ≡ false) ⊎ (old.broker.channel c h ≡ None) → Alike q
  by phase.Header e = (answers phase.Header p no_publish, answers phase.Header no_publish p)
  by phase.Start e = (answers phase.Start p no_publish, answers phase.Start no_publish p)
  by phase.Tune e = (answers phase.Tune p no_publish, answers phase.Tune no_publish p)
  by phase.Open e = (answers phase.Open p no_publish, answers phase.Open no_publish p)
  by phase.Running (inl e) = absurd (false≢true (sym e))
  by phase.Running (inr shut) = running_alike shut
  by phase.Closing e = (answers phase.Closing p no_publish, answers phase.Closing no_publish p)
  by phase.Over e = (answers phase.Over p no_publish, answers phase.Over no_publish p)

pub unseen : UnkeptIsUnseen
unseen f old c h p content sends notes new either = by f old new c h p content sends notes (old.session c).phase either
