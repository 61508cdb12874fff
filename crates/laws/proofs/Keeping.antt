-- Each message stands in a queue of the topology in force, and no guarantee forbids it a queue to which it may come from there by deaths.
use Rattle.laws.proofs.Names.{◌≡◌, ◌≤◌, List, [], ◌∷◌, Bool, true, false, length, refl, sym, ap, subst, ◌∙◌, ◌⊎◌, inl, inr, bytes_eq, bytes_eq-Decides, false≢true, Text, Topology, IsIn, IsWellFormed, queue_names, IsSaid, Broker, Routes, Dies, Later, key_after, routed, dead, Covers, IsSound, Message, HasNoObstacle, by_entry, survived_now, Occurrence, Of_event, Of_reload, History, NoneDone, in_force_after, AreCounted, empty_state, Config, State, Step, by_publish, MayBeIn, AreKept, AreSafe, NoneSurvived, DeclaredQueue, Entry, Send, Event, Note, KeptAreSafe, MessagesStayKept, NoEventMarks, ReloadsKeep}
use Rattle.std.proofs.Common.{map}
use Rattle.laws.proofs.Dying.{IsLetter}
use Rattle.laws.proofs.Entering.{picked}
use Rattle.laws.proofs.Once.{key_is_short, routed_is_there}
use Rattle.laws.proofs.Safe.{comes_fixed, routes_after, come_here, come_later}
use Rattle.laws.proofs.Traced.{AreSame, Came, stood, by_letter, published, AllCame, acts_came, rooted, both_alike, step_came}

-- ---- deaths

-- where a message comes by one death is later of where it was
pub one_death : (t : Topology) (p exchange r key : Text) (last : DeclaredQueue) → Dies t p exchange last → Routes t exchange (key_after last.dead_letter_key key) r → Later t p key r
one_death t p exchange r key last dies routes = record { last = last; exchange = exchange; dies = dies; comes = routed (routes_after t last.dead_letter_key key exchange r routes) }

-- and so is what is later of there
pub later_on : (t : Topology) (p exchange r key s : Text) (last : DeclaredQueue) → Dies t p exchange last → Routes t exchange (key_after last.dead_letter_key key) r → Later t r (key_after last.dead_letter_key key) s → Later t p key s
later_on t p exchange r key s last dies routes l = record {
  last = last;
  exchange = exchange;
  dies = dies;
  comes = dead l.last (routes_after t last.dead_letter_key key exchange r routes) l.dies (comes_fixed t last.dead_letter_key key l.comes);
}

-- ---- each message

kept_same : (f : Config) (q : Text) (m o : Message) → AreSame m o → MayBeIn f q o → MayBeIn f q m
kept_same f q m o s at = record {
  housed = at.housed;
  short = subst (λ (z : Text). length z ≤ 255) (sym s.first_key) at.short;
  safe = λ g i v covers.
      let was = at.safe g i v (subst (λ (z : Text). Covers g z o.first_key) s.first_exchange (subst (λ (z : Text). Covers g m.first_exchange z) s.first_key covers)) in
      (λ l. was.0 (subst (λ (z : Text). Later f.topology q z g.queue) s.key l), λ n. was.1 (sym s.survived ∙ n));
}

-- a dead letter may stand where it comes
kept_letter : (f : Config) (old : Text → List Entry) (q : Text) (x : Entry) → IsWellFormed f.topology → (l : IsLetter f.topology old q x) → MayBeIn f l.from l.entry.message → MayBeIn f q x.message
kept_letter f old q x wf l at =
    let key = l.entry.message.key in
    subst (λ (z : Entry). MayBeIn f q z.message) (sym l.is) (record {
      housed = routed_is_there f.topology l.exchange (key_after l.last.dead_letter_key key) q wf l.routes;
      short = at.short;
      safe = λ g i v covers.
          let was = at.safe g i v covers in (
            λ r. was.0 (later_on f.topology l.from l.exchange q key g.queue l.last l.dies l.routes r),
            λ n e. was.0 (subst (λ (z : Text). Later f.topology l.from key z) e (one_death f.topology l.from l.exchange q key l.last l.dies l.routes)),
          );
    })

module _ (f : Config) (old new : Broker) (e : Event) (sends : List Send) (notes : List Note) where
  each_kept : IsSound f → IsSaid e → AreKept f old → (q : Text) (x : Entry) → Came f.topology old new e sends notes q x → MayBeIn f q x.message
  each_kept sound said kept q x (stood o) = kept_same f q x.message o.entry.message o.same (kept.each q o.entry o.there)
  each_kept sound said kept q x (by_letter l) = kept_letter f old.queue q x sound.wf l (kept.each l.from l.entry l.there)
  each_kept sound said kept q x (published p i is) =
      let routes = picked q p.is.routed i in
      let short = key_is_short p said in
      subst (λ (z : Entry). MayBeIn f q z.message) (sym is) (record {
        housed = routed_is_there f.topology p.publish.exchange p.publish.routing_key q sound.wf routes;
        short = short;
        safe = λ g j v covers. (
          λ l. come_later f.topology g (sound.hold g j) v covers short (by_publish routes) l,
          λ n s. come_here f.topology g (sound.hold g j) v covers short (by_publish routes) s,
        );
      })

  pub kept_on : IsSound f → IsSaid e → AreCounted old → AreKept f old → AllCame f.topology old new sends notes e → AreKept f new
  kept_on sound said counted kept all = record {
    each = λ q x i. each_kept sound said kept q x (all q x i);
    alike = λ q r x z i j same. both_alike f.topology old new e sends notes counted kept.alike x.message z.message same
        (rooted f.topology old new e sends notes q x (all q x i)) (rooted f.topology old new e sends notes r z (all r z j));
  }

pub stay_kept : MessagesStayKept
stay_kept = record {
  empty = λ f. record { each = λ q e i. absurd i; alike = λ q r e d i j same. absurd i };
  acts = λ f old new e sends notes sound said counted kept a. kept_on f old new e sends notes sound said counted kept (acts_came f.topology old new sends notes e a);
}

-- Each step leaves messages where they may stand.
pub step_kept : (f : Config) (old new : State) (e : Event) (sends : List Send) (notes : List Note) → IsSound f → IsSaid e → AreCounted old.broker → AreKept f old.broker → Step f old e sends notes new → AreKept f new.broker
step_kept f old new e sends notes sound said counted kept s = kept_on f old.broker new.broker e sends notes sound said counted kept (step_came f old new e sends notes s)

-- ---- no event marks a message

unmarked : (t : Topology) (old new : Broker) (e : Event) (sends : List Send) (notes : List Note) (q : Text) (x : Entry) → NoneSurvived old → Came t old new e sends notes q x → x.message.survived ≡ false
unmarked t old new e sends notes q x none (stood o) = o.same.survived ∙ none q o.entry o.there
unmarked t old new e sends notes q x none (by_letter l) = ap (λ (z : Entry). z.message.survived) l.is
unmarked t old new e sends notes q x none (published p i is) = ap (λ (z : Entry). z.message.survived) is

pub no_event_marks : NoEventMarks
no_event_marks = record {
  empty = λ q e i. absurd i;
  acts = λ t old new e sends notes none a q x i. unmarked t old new e sends notes q x none (acts_came t old new sends notes e a q x i);
}

-- so no step does
step_unmarked : (f : Config) (old new : State) (e : Event) (sends : List Send) (notes : List Note) → NoneSurvived old.broker → Step f old e sends notes new → NoneSurvived new.broker
step_unmarked f old new e sends notes none s q x i = unmarked f.topology old.broker new.broker e sends notes q x none (step_came f old new e sends notes s q x i)

-- and nothing that happens while no reload is done, under what was in force at first
record Unmarked (f last : Config) (new : State) : Type 0 where
  none : NoneSurvived new.broker
  same : last ≡ f

unmarked_over : (f last : Config) (os : List Occurrence) (old new : State) → NoneDone os → NoneSurvived old.broker → History f old os last new → Unmarked f last new
unmarked_over f last [] old new without none (is, s) = record { none = subst (λ (z : State). NoneSurvived z.broker) (sym s) none; same = is }
unmarked_over f last (Of_event h ∷ os) old new without none (is, s, step, rest) =
    let before : NoneSurvived h.before.broker = subst (λ (z : State). NoneSurvived z.broker) (sym s) none in
    let u = unmarked_over h.config last os h.after new without (step_unmarked h.config h.before h.after h.event h.sends h.notes before step) rest in
    record { none = u.none; same = u.same ∙ is }
unmarked_over f last (Of_reload r ∷ os) old new (refused, without) none (is, s, decided, rest) =
    let after : NoneSurvived r.after.broker = subst (λ (z : State). NoneSurvived z.broker) (sym (refused.after ∙ s)) none in
    let u = unmarked_over r.in_force last os r.after new without after rest in
    record { none = u.none; same = u.same ∙ refused.in_force ∙ is }

-- what is last in force is what the reloads left so
pub last_in_force : (f last : Config) (os : List Occurrence) (old new : State) → History f old os last new → last ≡ in_force_after f os
last_in_force f last [] old new (is, s) = is
last_in_force f last (Of_event h ∷ os) old new (is, s, step, rest) = last_in_force h.config last os h.after new rest ∙ ap (λ (z : Config). in_force_after z os) is
last_in_force f last (Of_reload r ∷ os) old new (is, s, decided, rest) = last_in_force r.in_force last os r.after new rest

pub kept_are_safe : KeptAreSafe
kept_are_safe f b kept none q e i g is_in never covers =
    let at = (kept.each q e i).safe g is_in never covers in
    (at.1 (none q e i), at.0)

pub safe_over : (f last : Config) (os : List Occurrence) (new : State) → History f empty_state os last new → AreKept last new.broker → NoneDone os → AreSafe f.topology f.guarantees new.broker
safe_over f last os new history kept without =
    let u = unmarked_over f last os empty_state new without no_event_marks.empty history in
    kept_are_safe f new.broker (subst (λ (g : Config). AreKept g new.broker) u.same kept) u.none

-- ---- a reload

pub in_or_not : (x : Text) (xs : List Text) → IsIn x xs ⊎ (IsIn x xs → ⊥)
in_or_not x [] = inr (λ i. i)
in_or_not x (y ∷ ys) = go (bytes_eq x y) refl (in_or_not x ys)
  where
    go : (v : Bool) → bytes_eq x y ≡ v → IsIn x ys ⊎ (IsIn x ys → ⊥) → IsIn x (y ∷ ys) ⊎ (IsIn x (y ∷ ys) → ⊥)
    go true e r = inl (inl ((bytes_eq-Decides x y).0 e))
    go false e (inl i) = inl (inr i)
    go false e (inr n) = inr (λ i. elim i [ inl s ↦ false≢true (sym e ∙ (bytes_eq-Decides x y).1 s) | inr j ↦ n j ])

-- the queue of an entry is not gone
still_housed : (f g : Config) (b : Broker) → HasNoObstacle f.topology g b → (q : Text) (e : Entry) → IsIn e (b.queue q) → MayBeIn f q e.message → IsIn q (queue_names g.topology.queues)
still_housed f g b nothing q e i at = elim (in_or_not q (queue_names g.topology.queues)) [
  | inl there ↦ there
  | inr gone ↦ absurd (nothing.none_stranded q (record { was = at.housed; gone = gone; in_use = by_entry e i }))
]

-- each message that stands after it stood there before
pub record Stood (es : List Entry) (x : Entry) : Type 0 where
  pub entry : Entry
  pub there : IsIn entry es
  pub is : x ≡ survived_now entry

pub all_stood : (es : List Entry) (x : Entry) → IsIn x (map survived_now es) → Stood es x
all_stood [] x i = absurd i
all_stood (e ∷ es) x (inl is) = record { entry = e; there = inl refl; is = is }
all_stood (e ∷ es) x (inr i) = let r = all_stood es x i in record { entry = r.entry; there = inr r.there; is = r.is }

pub reload_kept : ReloadsKeep
reload_kept f g b kept nothing = record {
  each = λ q x i.
      let s = all_stood (b.queue q) x i in
      let was = kept.each q s.entry s.there in
      subst (λ (z : Entry). MayBeIn g q z.message) (sym s.is) (record {
        housed = still_housed f g b nothing q s.entry s.there was;
        short = was.short;
        safe = λ u j never covers. (
          λ l. nothing.none_endangered u q s.entry j was.housed s.there (record { never = never; covers = covers; later = l }),
          λ unmarked. absurd (false≢true (sym unmarked)),
        );
      });
  alike = λ q r x z i j same.
      let s = all_stood (b.queue q) x i in
      let d = all_stood (b.queue r) z j in
      let a = kept.alike q r s.entry d.entry s.there d.there (sym (ap (λ (y : Entry). y.message.number) s.is) ∙ same ∙ ap (λ (y : Entry). y.message.number) d.is) in
      record {
        exchange = ap (λ (y : Entry). y.message.first_exchange) s.is ∙ a.exchange ∙ sym (ap (λ (y : Entry). y.message.first_exchange) d.is);
        key = ap (λ (y : Entry). y.message.first_key) s.is ∙ a.key ∙ sym (ap (λ (y : Entry). y.message.first_key) d.is);
      };
}
