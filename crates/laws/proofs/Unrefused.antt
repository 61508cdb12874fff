-- What is done for a command against which nothing stands.
use Rattle.laws.proofs.Names.{◌≡◌, ℕ, List, [], ◌∷◌, Bool, true, false, refl, sym, ap, subst, ◌∙◌, None, inl, inr, find, false≢true, is_ready, first_ready, is_running, Refusal, Acts, Gets, Performs, OnConnection, channel_or_new, refusal, Step, Happening, event_connection, to_get, IsUnrefused, GivesOrIsEmpty, GetsAreAnswered, PurgesLeaveNone, Entry, Method, BasicGet, QueuePurge, Event}
use Rattle.std.proofs.Common.{filter, not, Option, Some}
use Rattle.std.specs.Prelude.{if◌then◌else◌}
use Rattle.model.specs.Step.{Decides}
use Rattle.laws.proofs.Accepted.{is_open}
use Rattle.laws.proofs.Agreement.{at_own}
use Rattle.laws.proofs.View.{goes}

-- it is performed
pub is_performed : (h : Happening) → Step h.config h.before h.event h.sends h.notes h.after → (c k : ℕ) (m : Method) (u : IsUnrefused h c k m)
    → Performs h.config.topology h.before.broker c k (channel_or_new (h.before.broker.channel c k)) m u.content h.sends h.notes h.after.broker
is_performed h s c k m u = elim (goes h.config h.before h.after h.sends h.notes h.event s) [
  | inl p ↦
      let acts : OnConnection h.config.topology h.before.broker c k m u.content h.sends h.notes h.after.broker (h.before.broker.connection c) = subst (λ (e : Event). Acts h.config.topology h.before.broker e h.sends h.notes h.after.broker) u.event p.acts in
      let decides : Decides h.config.topology h.before.broker c k m u.content (refusal h.config.topology h.before.broker u.connection k m (h.before.broker.channel c k)) h.sends h.notes h.after.broker =
      subst (OnConnection h.config.topology h.before.broker c k m u.content h.sends h.notes h.after.broker) u.there acts in
      subst (λ (r : Option Refusal). Decides h.config.topology h.before.broker c k m u.content r h.sends h.notes h.after.broker) u.accepted decides
  | inr a ↦
      let runs : is_running (h.before.session (event_connection h.event)).phase ≡ true = ap (λ (e : Event). is_running (h.before.session (event_connection e)).phase) u.event ∙ ap is_running u.runs in
      absurd (false≢true (sym a.idle ∙ runs))
]

pub step_answers : (h : Happening) → Step h.config h.before h.event h.sends h.notes h.after → GetsAreAnswered h
step_answers h s c k m u = go (first_ready (h.before.broker.queue m.queue)) refl (is_performed h s c k (BasicGet m) u)
  where
    go : (o : Option Entry) → first_ready (h.before.broker.queue m.queue) ≡ o → Gets h.before.broker c k (channel_or_new (h.before.broker.channel c k)) m o h.sends h.notes h.after.broker → GivesOrIsEmpty h c k m o
    go None is p = p.sent
    go (Some e) is p = to_get (channel_or_new (h.before.broker.channel c k)) u.event (is_open h.config.topology h.before.broker u.connection k m (h.before.broker.channel c k) u.accepted) is p

-- none of those that are not ready is ready
none_ready : (es : List Entry) → first_ready (filter (λ e. not (is_ready e)) es) ≡ None
none_ready [] = refl
none_ready (e ∷ es) = go (is_ready e) refl (none_ready es)
  where
    go : (v : Bool) → is_ready e ≡ v → first_ready (filter (λ x. not (is_ready x)) es) ≡ None → first_ready (if not v then e ∷ filter (λ x. not (is_ready x)) es else filter (λ x. not (is_ready x)) es) ≡ None
    go true is none = none
    go false is none = ap (λ (b : Bool). if b then Some e else find is_ready (filter (λ x. not (is_ready x)) es)) is ∙ none

pub step_purges : (h : Happening) → Step h.config h.before h.event h.sends h.notes h.after → PurgesLeaveNone h
step_purges h s c k m u =
    let p = is_performed h s c k (QueuePurge m) u in
    ap first_ready (p.left.queues m.queue ∙ at_own h.before.broker.queue m.queue _) ∙ none_ready (h.before.broker.queue m.queue)
