-- What a reload leaves: all that was kept before it is kept after it, under what it put in force.
use Rattle.laws.proofs.Names.{◌≡◌, ℕ, ◌≤◌, List, [], ◌∷◌, Bool, true, false, refl, sym, ap, subst, ◌∙◌, ◌⊎◌, inl, inr, is_some, bytes_eq, AllByRecursion, false≢true, bytes_eq-Decides, Text, IsIn, queue_names, Broker, Channel, Consumer, queue_named, is_held_as, IsAgreed, IsOutstanding, ArePresent, IsNoted, Is, Config, State, Happening, has_number, AreCounted, is_fresh, waiting, IsOfPublish, IsSound, AreNamedOn, AreNamed, IsCarried, AreCarried, HasNoObstacle, by_consumer, survived_now, with_all_survived, Reload, IsDecided, DeclaredQueue, Entry, Holder, Note, IsBegun}
use Rattle.std.proofs.Common.{map, Some}
use Rattle.std.specs.Prelude.{if◌then◌else◌}
use Rattle.laws.proofs.Counts.{count-map}
use Rattle.laws.proofs.Keeping.{in_or_not, all_stood, reload_kept}
use Rattle.laws.proofs.Linked as linked
use Rattle.laws.proofs.Never.{Agrees}
use Rattle.laws.proofs.Once.{AreOfOthers}
use Rattle.laws.proofs.Sources.{AreOfPublishes}

-- ---- the state after it

-- the state in which each message that waits is marked
abbrev pub all_marked : State → State
all_marked s = record s { broker = with_all_survived s.broker }

same_broker : (made new : Broker) → Is made new → new ≡ made
same_broker made new is = λ i. record { published = is.counted i; queue = λ q. is.queues q i; connection = λ c. is.connections c i; channel = λ c h. is.channels c h i }

-- it is that before it, with each message marked where the reload was done
pub state_left : (r : Reload) → IsDecided r → (r.after ≡ all_marked r.before) ⊎ (r.after ≡ r.before)
state_left r (inl d) = inl (λ i. record { broker = same_broker (with_all_survived r.before.broker) r.after.broker d.broker i; session = λ c. d.session c i })
state_left r (inr d) = inr d.after

-- what marks leave as it was is left so by a reload
pub over_reload : (Keeps : State → Type 0) → ((s : State) → Keeps s → Keeps (all_marked s)) → (r : Reload) → IsDecided r → Keeps r.before → Keeps r.after
over_reload Keeps marks r d k = elim (state_left r d) [ inl e ↦ subst Keeps (sym e) (marks r.before k) | inr e ↦ subst Keeps (sym e) k ]

-- ---- what marks leave

pub counted_marked : (b : Broker) → AreCounted b → AreCounted (with_all_survived b)
counted_marked b counted n q lt = count-map (has_number n) survived_now (λ x. refl) (b.queue q) ∙ counted n q lt

carried_all : (es : List Entry) → AllByRecursion (λ (e : Entry). IsCarried e.message) es → AllByRecursion (λ (e : Entry). IsCarried e.message) (map survived_now es)
carried_all [] a = tt
carried_all (e ∷ es) a = (record { exchange = a.0.exchange; key = a.0.key; content = a.0.content }, carried_all es a.1)

pub carried_marked : (b : Broker) → AreCarried b → AreCarried (with_all_survived b)
carried_marked b carried q = carried_all (b.queue q) (carried q)

in_stood : (e : Entry) (es : List Entry) → IsIn e es → IsIn (survived_now e) (map survived_now es)
in_stood e [] i = absurd i
in_stood e (x ∷ xs) (inl is) = inl (ap survived_now is)
in_stood e (x ∷ xs) (inr i) = inr (in_stood e xs i)

outstanding_marked : (b : Broker) (q : Text) (holder : Holder) → IsOutstanding b q holder → IsOutstanding (with_all_survived b) q holder
outstanding_marked b q holder o = record { channel = o.channel; there = o.there; delivery = o.delivery; outstanding = o.outstanding; tag = o.tag; queue = o.queue; by = o.by }

pub agreed_marked : (b : Broker) → IsAgreed b → IsAgreed (with_all_survived b)
agreed_marked b a = record {
  held = λ q e holder i mark.
      let s = all_stood (b.queue q) e i in
      outstanding_marked b q holder (a.held q s.entry holder s.there (sym (ap (λ (z : Entry). z.mark) s.is) ∙ mark));
  given = λ c h ch o there i.
      let was = a.given c h ch o there i in
      record { entry = survived_now was.entry; there = in_stood was.entry (b.queue o.queue) was.there; mark = was.mark };
  distinct = λ q holder. subst (λ (n : ℕ). n ≤ 1) (sym (count-map (is_held_as holder) survived_now (λ x. refl) (b.queue q))) (a.distinct q holder);
  rising = a.rising;
  before = a.before;
  closed = a.closed;
}

pub present_marked : (s : State) → ArePresent s → ArePresent (all_marked s)
present_marked s p = record { connections = p.connections; channels = p.channels }

pub sourced_marked : (before : List Happening) (b : Broker) → AreOfPublishes before b.queue → AreOfPublishes before (with_all_survived b).queue
sourced_marked before b all q e i =
    let s = all_stood (b.queue q) e i in
    let was = all q s.entry s.there in
    subst (λ (z : Entry). IsOfPublish before z.message) (sym s.is) (record { published = was.published; was = was.was; content = was.content })

pub waiting_marked : (es : List Entry) → waiting (map survived_now es) ≡ waiting es
waiting_marked [] = refl
waiting_marked (e ∷ es) = ap (λ (ns : List ℕ). if is_fresh e then e.message.number ∷ ns else ns) (waiting_marked es)

pub agrees_marked : (all : List Note) (b : Broker) → Agrees all b → Agrees all (with_all_survived b)
agrees_marked all b agrees q y i x key noted =
    let s = all_stood (b.queue q) y i in
    let was = agrees q s.entry s.there x key (subst (λ (n : ℕ). IsNoted all n x key) (ap (λ (z : Entry). z.message.number) s.is) noted) in
    (was.0 ∙ sym (ap (λ (z : Entry). z.message.first_exchange) s.is), was.1 ∙ sym (ap (λ (z : Entry). z.message.first_key) s.is))

pub linked_marked : (s : State) (is_paused : ℕ → Bool) → linked.Agrees s.broker s.session is_paused → linked.Agrees (with_all_survived s.broker) s.session is_paused
linked_marked s is_paused a = record { running = a.running; paused = a.paused; limits = a.limits }

-- ---- what follows from what was judged

pub begun_reloaded : (r : Reload) → IsDecided r → IsBegun r.config r.before.broker → IsBegun r.in_force r.after.broker
begun_reloaded r (inl d) begun =
    subst (λ (f : Config). IsBegun f r.after.broker) (sym d.in_force) (
    subst (IsBegun r.offered) (sym (same_broker (with_all_survived r.before.broker) r.after.broker d.broker)) (record {
      counted = counted_marked r.before.broker begun.counted;
      kept = reload_kept r.config r.offered r.before.broker begun.kept d.nothing;
    }))
begun_reloaded r (inr d) begun = subst (λ (f : Config). IsBegun f r.after.broker) (sym d.in_force) (subst (λ (s : State). IsBegun r.config s.broker) (sym d.after) begun)

pub sound_reloaded : (r : Reload) → IsDecided r → IsSound r.config → IsSound r.offered → IsSound r.in_force
sound_reloaded r (inl d) sound offered = subst IsSound (sym d.in_force) offered
sound_reloaded r (inr d) sound offered = subst IsSound (sym d.in_force) sound

-- nothing that a reload notes is of a publish
pub reload_of_others : (r : Reload) → IsDecided r → (n : ℕ) → AreOfOthers n r.notes
reload_of_others r (inl d) n = subst (AreOfOthers n) (sym d.noted) (refl, tt)
reload_of_others r (inr d) n = subst (AreOfOthers n) (sym d.noted) (refl, tt)

-- ---- consumers

named_there : (qs : List DeclaredQueue) (name : Text) → is_some (queue_named qs name) ≡ true → IsIn name (queue_names qs)
named_there [] name e = absurd (false≢true e)
named_there (q ∷ qs) name e = by (named_there qs name) (bytes_eq q.name name) refl e
  where
    by : (is_some (queue_named qs name) ≡ true → IsIn name (queue_names qs)) → (b : Bool) → bytes_eq q.name name ≡ b → is_some (if b then Some q else queue_named qs name) ≡ true → IsIn name (q.name ∷ queue_names qs)
    by rest true is found = inl (sym ((bytes_eq-Decides q.name name).0 is))
    by rest false is found = inr (rest found)

there_named : (qs : List DeclaredQueue) (name : Text) → IsIn name (queue_names qs) → is_some (queue_named qs name) ≡ true
there_named [] name i = absurd i
there_named (q ∷ qs) name i = by (there_named qs name) (bytes_eq q.name name) refl i
  where
    by : (IsIn name (queue_names qs) → is_some (queue_named qs name) ≡ true) → (b : Bool) → bytes_eq q.name name ≡ b → IsIn name (q.name ∷ queue_names qs) → is_some (if b then Some q else queue_named qs name) ≡ true
    by rest true is i = refl
    by rest false is (inl e) = absurd (false≢true (sym is ∙ (bytes_eq-Decides q.name name).1 (sym e)))
    by rest false is (inr i) = rest i

-- the queue of a consumer is not gone
consumed_there : (f g : Config) (b : Broker) → HasNoObstacle f.topology g b → (c h : ℕ) (ch : Channel) → b.channel c h ≡ Some ch → (k : Consumer) → IsIn k ch.consumers → is_some (queue_named f.topology.queues k.queue) ≡ true → is_some (queue_named g.topology.queues k.queue) ≡ true
consumed_there f g b nothing c h ch there k i named = elim (in_or_not k.queue (queue_names g.topology.queues)) [
  | inl is ↦ there_named g.topology.queues k.queue is
  | inr gone ↦ absurd (nothing.none_stranded k.queue (record { was = named_there f.topology.queues k.queue named; gone = gone; in_use = by_consumer c h ch k there i refl }))
]

each_of : {A : Type 0} (P Q : A → Type 0) (xs : List A) → AllByRecursion P xs → ((x : A) → IsIn x xs → P x → Q x) → AllByRecursion Q xs
each_of P Q [] a f = tt
each_of P Q (x ∷ xs) a f = (f x (inl refl) a.0, each_of P Q xs a.1 (λ y i. f y (inr i)))

named_on : (f g : Config) (b : Broker) → HasNoObstacle f.topology g b → (c h : ℕ) (ch : Channel) → b.channel c h ≡ Some ch → AreNamedOn f.topology ch → AreNamedOn g.topology ch
named_on f g b nothing c h ch there named = record {
  queues = each_of (λ (k : Consumer). is_some (queue_named f.topology.queues k.queue) ≡ true) (λ (k : Consumer). is_some (queue_named g.topology.queues k.queue) ≡ true) ch.consumers named.queues
      (λ k i was. consumed_there f g b nothing c h ch there k i was);
  spelled = named.spelled;
  distinct = named.distinct;
  rising = named.rising;
  before = named.before;
  given = named.given;
  few = named.few;
}

pub named_reloaded : (r : Reload) → IsDecided r → AreNamed r.config.topology r.before.broker → AreNamed r.in_force.topology r.after.broker
named_reloaded r (inl d) named =
    subst (λ (f : Config). AreNamed f.topology r.after.broker) (sym d.in_force) (
    subst (AreNamed r.offered.topology) (sym (same_broker (with_all_survived r.before.broker) r.after.broker d.broker))
    (λ c h ch there. named_on r.config r.offered r.before.broker d.nothing c h ch there (named c h ch there)))
named_reloaded r (inr d) named = subst (λ (f : Config). AreNamed f.topology r.after.broker) (sym d.in_force) (subst (λ (s : State). AreNamed r.config.topology s.broker) (sym d.after) named)
