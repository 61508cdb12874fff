-- Where deaths lead a message: by the dead-letter exchange of its queue, under the key that the queue fixes or else its own.
use Rattle.reloading.proofs.Names.{◌≡◌, ℕ, zero, suc, Bool, false, Option, Some, None, List, [], ◌∷◌, get_or, refl, sym, ap, subst, ◌∙◌, inl, inr, Decides, slice_get, false≢true, Text, Topology, IsIn, IsWellFormed, AreDistinct, queue_names, Reading, of_key, RoutesBy, reading_after, fixed_after, key_after, Comes, routed, dead, Dies, Later, DeclaredQueue, in_from_contains, Guarantee, EndangersNone, IsExploredFor, IsFixedFor}
use Rattle.laws.proofs.Safe.{comes_fixed, refixed, same_reading}
use Rattle.exchange_graph.specs.Marks.{queue_name}
use Rattle.std.specs.Borrow.{Bor}
use Rattle.std.specs.Prelude.{IfSome}
use Rattle.exchange_graph.proofs.Names.{contains_in}
use Rattle.exchange_graph.specs.Dying.{IsDeadLetter}
use Rattle.paths.specs.Deaths.{AreDeaths, IsDeathOf}
use Rattle.paths.specs.Exploring.{AreExplored, IsExploration}
use Rattle.paths.specs.declared.visits.Visit.{Visit}

-- ---- the key

-- where a message comes under its own key that a queue fixed otherwise, it comes that is sent under the fixed one
comes_own : (t : Topology) (f : Option Text) (key : Text) (h k : Option Text) {x q : Text} → k ≡ fixed_after h f → Comes t (of_key key) k x q → Comes t (of_key (key_after f key)) h x q
comes_own t f key h k {x = x} {q = q} e (routed ro) = routed (subst (λ (r : Reading). RoutesBy t r x q) (ap (λ (o : Option Text). reading_after o (of_key key)) e ∙ sym (same_reading h f key)) ro)
comes_own t f key h k {x = x} {q = q} e (dead {p = p} last ro d c) =
    dead last (subst (λ (r : Reading). RoutesBy t r x p) (ap (λ (o : Option Text). reading_after o (of_key key)) e ∙ sym (same_reading h f key)) ro) d
    (comes_own t f key (fixed_after last.dead_letter_key h) (fixed_after last.dead_letter_key k) (ap (fixed_after last.dead_letter_key) e ∙ refixed last.dead_letter_key h f) c)

-- ---- the queue of a name

named_in : (p : DeclaredQueue) (qs : List DeclaredQueue) → IsIn p qs → IsIn p.name (queue_names qs)
named_in p [] i = i
named_in p (q ∷ qs) (inl e) = inl (ap (λ (z : DeclaredQueue). z.name) e)
named_in p (q ∷ qs) (inr i) = inr (named_in p qs i)

-- names are apart, so two of one name are one
one_queue : (p q : DeclaredQueue) (qs : List DeclaredQueue) → AreDistinct (queue_names qs) → IsIn p qs → IsIn q qs → p.name ≡ q.name → p ≡ q
one_queue p q [] distinct i j e = absurd i
one_queue p q (r ∷ rs) distinct (inl a) (inl b) e = a ∙ sym b
one_queue p q (r ∷ rs) distinct (inl a) (inr j) e = absurd (distinct.0 (subst (λ (z : Text). IsIn z (queue_names rs)) (sym e ∙ ap (λ (z : DeclaredQueue). z.name) a) (named_in q rs j)))
one_queue p q (r ∷ rs) distinct (inr i) (inl b) e = absurd (distinct.0 (subst (λ (z : Text). IsIn z (queue_names rs)) (e ∙ ap (λ (z : DeclaredQueue). z.name) b) (named_in p rs i)))
one_queue p q (r ∷ rs) distinct (inr i) (inr j) e = one_queue p q rs distinct.1 i j e

dies_in : (t : Topology) (q x : Text) (last : DeclaredQueue) → Dies t q x last → IsIn last t.queues
dies_in t q x last d = in_from_contains t.queues last d.is_queue.0 d.is_queue.1 d.is_queue.2

one_death : (t : Topology) (q x y : Text) (p last : DeclaredQueue) → IsWellFormed t → Dies t q x p → Dies t q y last → p ≡ last
one_death t q x y p last wf d e = one_queue p last t.queues wf.queues_distinct (dies_in t q x p d) (dies_in t q y last e) (d.is_named ∙ sym e.is_named)

-- ---- whether it leads there

-- a dead letter goes one way
pub route_tells : (t : Topology) (q key x onward r : Text) (yes' : Bool) → IsWellFormed t → IsDeadLetter t q key x onward → Decides yes' (Comes t (of_key onward) None x r) → Decides yes' (Later t q key r)
route_tells t q key x onward r yes' wf route d = (λ y. later (d.0 y), λ l. d.1 (comes l))
  where
    last : DeclaredQueue
    last = route.last

    later : Comes t (of_key onward) None x r → Later t q key r
    later c = record {
      last = last;
      exchange = x;
      dies = route.dies;
      comes = comes_fixed t last.dead_letter_key key (subst (λ (k : Text). Comes t (of_key k) None x r) route.under c);
    }

    comes : Later t q key r → Comes t (of_key onward) None x r
    comes l =
        let same : last ≡ l.last = one_death t q x l.exchange last l.last wf route.dies l.dies in
        let to : Some x ≡ Some l.exchange = sym route.dies.dead ∙ ap (λ (z : DeclaredQueue). z.dead_letter_exchange) same ∙ l.dies.dead in
        let at : x ≡ l.exchange = cc in
        let under : onward ≡ key_after l.last.dead_letter_key key = route.under ∙ ap (λ (z : DeclaredQueue). key_after z.dead_letter_key key) same in
        subst (λ (k : Text). Comes t (of_key k) None x r) (sym under)
        (subst (λ (y : Text). Comes t (of_key (key_after l.last.dead_letter_key key)) None y r) (sym at) (comes_own t l.last.dead_letter_key key None l.last.dead_letter_key refl l.comes))

-- what was explored for a message tells whether it leads there
pub explored_tells : (t : Topology) (q key r : Text) (visits : List Visit) (yes' : Bool) → IsWellFormed t → (f : IsExploredFor t q key visits)
    → ((x k : Text) → AreExplored t x k visits → Decides yes' (Comes t (of_key k) None x r)) → Decides yes' (Later t q key r)
explored_tells t q key r visits yes' wf f d = route_tells t q key f.exchange f.onward r yes' wf f.letter (d f.exchange f.onward f.explored)

pub exploration_of : (t : Topology) (q key : Text) (visits : List Visit) → IsExploredFor t q key visits → IsExploration t visits
exploration_of t q key visits f = record { exchange = f.exchange; key = f.onward; explored = f.explored }

-- where it doesn't, whatever the key is, no message is endangered
pub fixed_spares : (t : Topology) (g : Guarantee) (q : Text) (visits : List Visit) (yes' : Bool) → IsFixedFor t q visits
    → ((p key : Text) → IsExploredFor t p key visits → Decides yes' (Later t p key g.queue)) → yes' ≡ false → EndangersNone t g q
fixed_spares t g q visits yes' f d off m e = false≢true (sym off ∙ (d q m.key (f m.key)).1 e.later)

-- ---- a queue that sets the key

in_at : {A : Type 0} (xs : List A) (i : ℕ) (x : A) → slice_get xs i ≡ Some x → IsIn x xs
in_at [] i x e = absurd (let h : None ≡ Some x = e in cc)
in_at (y ∷ ys) zero x e = inl (let h : Some y ≡ Some x = e in cc)
in_at (y ∷ ys) (suc i) x e = inr (in_at ys i x e)

name_at : (qs : List DeclaredQueue) (i : ℕ) (d : DeclaredQueue) → slice_get qs i ≡ Some d → get_or (queue_names qs) i [] ≡ d.name
name_at [] i d e = absurd (let h : None ≡ Some d = e in cc)
name_at (q ∷ qs) zero d e = (let h : Some q ≡ Some d = e in let g : q ≡ d = cc in ap (λ (z : DeclaredQueue). z.name) g)
name_at (q ∷ qs) (suc i) d e = name_at qs i d e

-- what its dead letters reach is the same for all keys
pub fixed_front : (t : Topology) (q : Text) (at : ℕ) (visits : List Visit) → queue_name t at ≡ q → IsDeathOf t at visits → IsFixedFor t q visits
fixed_front t q at visits named d key = record {
  exchange = d.exchange;
  onward = d.key;
  letter = record {
    last = d.fixes.queue;
    dies = record {
      is_queue = contains_in t.queues d.fixes.queue (in_at t.queues at d.fixes.queue d.fixes.is_there);
      is_named = sym (name_at t.queues at d.fixes.queue d.fixes.is_there) ∙ named;
      dead = d.fixes.dead;
    };
    under = under d.fixes.queue.dead_letter_key d.fixes.own;
  };
  explored = d.explored;
}
  where
    under : (own : Option Text) → own ≡ Some d.key → d.key ≡ key_after own key
    under None e = absurd (let h : None ≡ Some d.key = e in cc)
    under (Some k) e = (let h : Some k ≡ Some d.key = e in cc)

pub fronts_fixed : (t : Topology) (q : Text) (fronts : List (Option (List Visit))) (at : ℕ) (front : Option (Bor (List Visit))) → AreDeaths t fronts → queue_name t at ≡ q → IfSome front (λ e. slice_get fronts at ≡ Some (Some e.now))
    → IfSome front (λ e. IsFixedFor t q e.now)
fronts_fixed t q fronts at None d named s = tt
fronts_fixed t q fronts at (Some e) d named s = fixed_front t q at e.now named (d.each at (Some e.now) s)
