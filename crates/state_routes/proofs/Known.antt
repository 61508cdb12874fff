-- The open links lead exactly where a state makes sure, or does not rule out, that keys lead.
use Rattle.state_routes.proofs.Names.{rules, ◌≡◌, ◌⊎◌, ℕ, zero, suc, Bool, true, false, cond, eqb, List, [], ◌∷◌, ◌++◌, refl, sym, ap, subst, ◌∙◌, inl, inr, Option, Some, None, arith, Decides, Contains, not, ◌&&◌, ◌||◌, unwrap_or, option_map, bytes_eq, false≢true, eqb-true, bytes_eq-Decides, Text, Topology, IsIn, IsWellFormed, exchange_names, Reading, Binds, Edge, bound, alternate, default, Leads, here, on, RoutesBy, of_key, reading_after, fixed_after, Comes, routed, dead, Tracked, same_tracked, is_accepted, PatternAnswers, sure, possible, Mode, Reaches, Never, Exchange, DeclaredQueue, Binding, Destination, ExchangeKind, Direct, Fanout, Topic, Hop, Gate, Pattern, Chain, still, along, node, end_node, alternate_link, alternate_links, tracked_index, test_by, kind_at, kind_or_direct, gate_of, binding_gates, has_queue, default_gate, gates_of, accepted, is_open, is_shut, passes, blocks, all_block, open_links, open_alternates, open_ways, entry, default_entry, AreEntered, dying, GoOn, IsEnd, AreOnce, in_front, in_back, in-append, in_map, from_map, contained, has_place, same_tracked_tells}
use Rattle.std.specs.Prelude.{slice_get}
use Rattle.model.specs.declared.topologies.Destination.TheVariants as destination
use Rattle.state_routes.specs.declared.gates.Test.{Test}
use Rattle.state_routes.proofs.DeadLetters.{ToDeath, from_entered, to_entered, dying_tells, dying_has, fixed_goes, fixed_sent, sent_fixed}
use Rattle.state_routes.proofs.Numbers.{node_same, node_default, node_above, found_same}
use Rattle.certificate_laws.proofs.Refutations.{comes_on}

-- ---- what a place among the tracked patterns answers

answers_in : (ps : List Tracked) (ms : List ℕ) (kind : ExchangeKind) (text : Text) (b : Bool) → PatternAnswers ps ms kind text b → IsIn (record { kind = kind; text = text }) ps
answers_in [] ms kind text b a = absurd a
answers_in (p ∷ ps) [] kind text b a = absurd a
answers_in (p ∷ ps) (m ∷ ms) kind text b (inl a) = inl (sym (ap (λ (k : ExchangeKind). record { kind = k; text = p.text }) a.0 ∙ ap (λ (z : Text). record { kind = kind; text = z }) a.1))
answers_in (p ∷ ps) (m ∷ ms) kind text b (inr a) = inr (answers_in ps ms kind text b a)

at_its_place : (ps : List Tracked) (ms : List ℕ) (kind : ExchangeKind) (text : Text) (b : Bool) → AreOnce ps → PatternAnswers ps ms kind text b → slice_get (accepted ps ms) (tracked_index ps kind text) ≡ Some b
at_its_place [] ms kind text b o a = absurd a
at_its_place (p ∷ ps) [] kind text b o a = absurd a
at_its_place (p ∷ ps) (m ∷ ms) kind text b o a = go (same_tracked (record { kind = kind; text = text }) p) (same_tracked_tells (record { kind = kind; text = text }) p) a (λ z. at_its_place ps ms kind text b o.1 z)
  where
    go : (v : Bool) → Decides v (record { kind = kind; text = text } ≡ p) → ((p.kind ≡ kind) × (p.text ≡ text) × (is_accepted p m ≡ b)) ⊎ PatternAnswers ps ms kind text b → (PatternAnswers ps ms kind text b → slice_get (accepted ps ms) (tracked_index ps kind text) ≡ Some b)
        → slice_get (is_accepted p m ∷ accepted ps ms) (cond v zero (suc (tracked_index ps kind text))) ≡ Some b
    go true d (inl z) f = ap (λ (w : Bool). Some w) z.2
    go true d (inr z) f = absurd (o.0 (subst (λ (w : Tracked). IsIn w ps) (d.0 refl) (answers_in ps ms kind text b z)))
    go false d (inl z) f = absurd (false≢true (d.1 (sym (ap (λ (k : ExchangeKind). record { kind = k; text = p.text }) z.0 ∙ ap (λ (w : Text). record { kind = kind; text = w }) z.1))))
    go false d (inr z) f = f z

from_its_place : (ps : List Tracked) (ms : List ℕ) (kind : ExchangeKind) (text : Text) (b : Bool) → slice_get (accepted ps ms) (tracked_index ps kind text) ≡ Some b → PatternAnswers ps ms kind text b
from_its_place [] ms kind text b e = let h : None ≡ Some b = e in cc
from_its_place (p ∷ ps) [] kind text b e = let h : None ≡ Some b = e in cc
from_its_place (p ∷ ps) (m ∷ ms) kind text b e = go (same_tracked (record { kind = kind; text = text }) p) (same_tracked_tells (record { kind = kind; text = text }) p) e (λ z. from_its_place ps ms kind text b z)
  where
    go : (v : Bool) → Decides v (record { kind = kind; text = text } ≡ p) → slice_get (is_accepted p m ∷ accepted ps ms) (cond v zero (suc (tracked_index ps kind text))) ≡ Some b → (slice_get (accepted ps ms) (tracked_index ps kind text) ≡ Some b → PatternAnswers ps ms kind text b)
        → ((p.kind ≡ kind) × (p.text ≡ text) × (is_accepted p m ≡ b)) ⊎ PatternAnswers ps ms kind text b
    go true d e f = inl (ap (λ (w : Tracked). w.kind) (sym (d.0 refl)), ap (λ (w : Tracked). w.text) (sym (d.0 refl)), (let h : Some (is_accepted p m) ≡ Some b = e in cc))
    go false d e f = inr (f e)

or_true : (o : Option Bool) → unwrap_or o false ≡ true → o ≡ Some true
or_true None e = absurd (false≢true e)
or_true (Some true) e = refl
or_true (Some false) e = absurd (false≢true e)

not_or_true : (o : Option Bool) → unwrap_or (option_map not o) false ≡ true → o ≡ Some false
not_or_true None e = absurd (false≢true e)
not_or_true (Some true) e = absurd (false≢true e)
not_or_true (Some false) e = refl

not_true : (b : Bool) → (b ≡ true → ⊥) → not b ≡ true
not_true true n = absurd (n refl)
not_true false n = refl

true_not : (b : Bool) → not b ≡ true → b ≡ true → ⊥
true_not true e f = false≢true e
true_not false e f = false≢true f

-- what a state tells a promise of this mode
abbrev pub reading_by : Mode → List Tracked → List ℕ → Reading
reading_by Reaches ps ms = sure ps ms
reading_by Never ps ms = possible ps ms

module _ (ps : List Tracked) (ms : List ℕ) (once : AreOnce ps) where
  pub opens_test : (kind : ExchangeKind) (key : Text) → (kind ≡ Fanout) ⊎ PatternAnswers ps ms kind key true → is_open (test_by ps kind key) (accepted ps ms) ≡ true
  opens_test Fanout key o = refl
  opens_test Direct key (inl e) = absurd (let h : Direct ≡ Fanout = e in cc)
  opens_test Direct key (inr a) = ap (λ (o : Option Bool). unwrap_or o false) (at_its_place ps ms Direct key true once a)
  opens_test Topic key (inl e) = absurd (let h : Topic ≡ Fanout = e in cc)
  opens_test Topic key (inr a) = ap (λ (o : Option Bool). unwrap_or o false) (at_its_place ps ms Topic key true once a)

  pub test_opens : (kind : ExchangeKind) (key : Text) → is_open (test_by ps kind key) (accepted ps ms) ≡ true → (kind ≡ Fanout) ⊎ PatternAnswers ps ms kind key true
  test_opens Fanout key e = inl refl
  test_opens Direct key e = inr (from_its_place ps ms Direct key true (or_true (slice_get (accepted ps ms) (tracked_index ps Direct key)) e))
  test_opens Topic key e = inr (from_its_place ps ms Topic key true (or_true (slice_get (accepted ps ms) (tracked_index ps Topic key)) e))

  pub shuts_test : (kind : ExchangeKind) (key : Text) → (kind ≡ Fanout → ⊥) × PatternAnswers ps ms kind key false → is_shut (test_by ps kind key) (accepted ps ms) ≡ true
  shuts_test Fanout key s = absurd (s.0 refl)
  shuts_test Direct key s = ap (λ (o : Option Bool). unwrap_or (option_map not o) false) (at_its_place ps ms Direct key false once s.1)
  shuts_test Topic key s = ap (λ (o : Option Bool). unwrap_or (option_map not o) false) (at_its_place ps ms Topic key false once s.1)

  pub test_shuts : (kind : ExchangeKind) (key : Text) → is_shut (test_by ps kind key) (accepted ps ms) ≡ true → (kind ≡ Fanout → ⊥) × PatternAnswers ps ms kind key false
  test_shuts Fanout key e = absurd (false≢true e)
  test_shuts Direct key e = ((λ f. let h : Direct ≡ Fanout = f in cc), from_its_place ps ms Direct key false (not_or_true (slice_get (accepted ps ms) (tracked_index ps Direct key)) e))
  test_shuts Topic key e = ((λ f. let h : Topic ≡ Fanout = f in cc), from_its_place ps ms Topic key false (not_or_true (slice_get (accepted ps ms) (tracked_index ps Topic key)) e))

  pub opens_passes : (m : Mode) (kind : ExchangeKind) (key : Text) → (reading_by m ps ms).opens kind key → passes m (test_by ps kind key) (accepted ps ms) ≡ true
  opens_passes Reaches kind key o = opens_test kind key o
  opens_passes Never kind key o = not_true (is_shut (test_by ps kind key) (accepted ps ms)) (λ e. let s = test_shuts kind key e in elim o [ inl f ↦ s.0 f | inr n ↦ n s.1 ])

  pub passes_opens : (m : Mode) (kind : ExchangeKind) (key : Text) → passes m (test_by ps kind key) (accepted ps ms) ≡ true → (reading_by m ps ms).opens kind key
  passes_opens Reaches kind key e = test_opens kind key e
  passes_opens Never Fanout key e = inl refl
  passes_opens Never Direct key e = inr (λ a. true_not (is_shut (test_by ps Direct key) (accepted ps ms)) e (shuts_test Direct key ((λ f. let h : Direct ≡ Fanout = f in cc), a)))
  passes_opens Never Topic key e = inr (λ a. true_not (is_shut (test_by ps Topic key) (accepted ps ms)) e (shuts_test Topic key ((λ f. let h : Topic ≡ Fanout = f in cc), a)))

  pub shuts_blocks : (m : Mode) (kind : ExchangeKind) (key : Text) → (reading_by m ps ms).shuts kind key → blocks m (test_by ps kind key) (accepted ps ms) ≡ true
  shuts_blocks Reaches kind key s = shuts_test kind key s
  shuts_blocks Never kind key s = not_true (is_open (test_by ps kind key) (accepted ps ms)) (λ e. elim (test_opens kind key e) [ inl f ↦ s.0 f | inr a ↦ s.1 a ])

  pub blocks_shuts : (m : Mode) (kind : ExchangeKind) (key : Text) → blocks m (test_by ps kind key) (accepted ps ms) ≡ true → (reading_by m ps ms).shuts kind key
  blocks_shuts Reaches kind key e = test_shuts kind key e
  blocks_shuts Never kind key e = ((λ f. true_not (is_open (test_by ps kind key) (accepted ps ms)) e (opens_test kind key (inl f))), (λ a. true_not (is_open (test_by ps kind key) (accepted ps ms)) e (opens_test kind key (inr a))))

  -- the default exchange asks for a name as a direct exchange for a key
  pub names_passes : (m : Mode) (queue : Text) → (reading_by m ps ms).names queue → passes m (Pattern (tracked_index ps Direct queue)) (accepted ps ms) ≡ true
  names_passes Reaches queue a = opens_passes Reaches Direct queue (inr a)
  names_passes Never queue a = opens_passes Never Direct queue (inr a)

  pub passes_names : (m : Mode) (queue : Text) → passes m (Pattern (tracked_index ps Direct queue)) (accepted ps ms) ≡ true → (reading_by m ps ms).names queue
  passes_names Reaches queue e = elim (passes_opens Reaches Direct queue e) [ inl f ↦ absurd (let h : Direct ≡ Fanout = f in cc) | inr a ↦ a ]
  passes_names Never queue e = elim (passes_opens Never Direct queue e) [ inl f ↦ absurd (let h : Direct ≡ Fanout = f in cc) | inr a ↦ a ]

-- ---- gates, links and alternates in their lists

gate_in : (xs : List Exchange) (q : Text) (ps : List Tracked) (b : Binding) (bs : List Binding) → IsIn b bs → IsIn (gate_of xs q ps b) (binding_gates xs q ps bs)
gate_in xs q ps b [] i = absurd i
gate_in xs q ps b (c ∷ cs) (inl e) = inl (ap (gate_of xs q ps) e)
gate_in xs q ps b (c ∷ cs) (inr i) = inr (gate_in xs q ps b cs i)

in_gates : (t : Topology) (q : Text) (ps : List Tracked) (b : Binding) → IsIn b t.bindings → IsIn (gate_of t.exchanges q ps b) (gates_of t q ps)
in_gates t q ps b i = elim (has_queue t.queues q) as (λ v. IsIn (gate_of t.exchanges q ps b) (cond v (binding_gates t.exchanges q ps t.bindings ++ default_gate ps q ∷ []) (binding_gates t.exchanges q ps t.bindings))) [
  | true ↦ in_front (gate_of t.exchanges q ps b) (binding_gates t.exchanges q ps t.bindings) (default_gate ps q ∷ []) (gate_in t.exchanges q ps b t.bindings i)
  | false ↦ gate_in t.exchanges q ps b t.bindings i
]

default_in : (t : Topology) (q : Text) (ps : List Tracked) → has_queue t.queues q ≡ true → IsIn (default_gate ps q) (gates_of t q ps)
default_in t q ps e = subst (λ (v : Bool). IsIn (default_gate ps q) (cond v (binding_gates t.exchanges q ps t.bindings ++ default_gate ps q ∷ []) (binding_gates t.exchanges q ps t.bindings))) (sym e) (in_back (default_gate ps q) (binding_gates t.exchanges q ps t.bindings) (default_gate ps q ∷ []) (inl refl))

from_binding_gates : (xs : List Exchange) (q : Text) (ps : List Tracked) (g : Gate) (bs : List Binding) → IsIn g (binding_gates xs q ps bs) → (b : Binding) × IsIn b bs × (g ≡ gate_of xs q ps b)
from_binding_gates xs q ps g [] i = absurd i
from_binding_gates xs q ps g (b ∷ bs) (inl e) = (b, inl refl, e)
from_binding_gates xs q ps g (b ∷ bs) (inr i) = let r = from_binding_gates xs q ps g bs i in (r.0, inr r.1, r.2)

pub from_gates : (t : Topology) (q : Text) (ps : List Tracked) (g : Gate) → IsIn g (gates_of t q ps) → ((b : Binding) × IsIn b t.bindings × (g ≡ gate_of t.exchanges q ps b)) ⊎ ((has_queue t.queues q ≡ true) × (g ≡ default_gate ps q))
from_gates t q ps g i = go (has_queue t.queues q) refl i
  where
    go : (v : Bool) → has_queue t.queues q ≡ v → IsIn g (cond v (binding_gates t.exchanges q ps t.bindings ++ default_gate ps q ∷ []) (binding_gates t.exchanges q ps t.bindings)) → ((b : Binding) × IsIn b t.bindings × (g ≡ gate_of t.exchanges q ps b)) ⊎ ((has_queue t.queues q ≡ true) × (g ≡ default_gate ps q))
    go true e j = elim (in-append g (binding_gates t.exchanges q ps t.bindings) (default_gate ps q ∷ []) j) [
      | inl k ↦ inl (from_binding_gates t.exchanges q ps g t.bindings k)
      | inr k ↦ elim k [ inl s ↦ inr (e, s) | inr n ↦ absurd n ]
    ]
    go false e j = inl (from_binding_gates t.exchanges q ps g t.bindings j)

pub open_in : (m : Mode) (g : Gate) (gs : List Gate) (acc : List Bool) → IsIn g gs → passes m g.test acc ≡ true → IsIn g.link (open_links m gs acc)
open_in m g [] acc i o = absurd i
open_in m g (h ∷ hs) acc (inl e) o = subst (λ (v : Bool). IsIn g.link (cond v (h.link ∷ open_links m hs acc) (open_links m hs acc))) (sym (ap (λ (z : Gate). passes m z.test acc) (sym e) ∙ o)) (inl (ap (λ (z : Gate). z.link) e))
open_in m g (h ∷ hs) acc (inr i) o = elim (passes m h.test acc) as (λ v. IsIn g.link (cond v (h.link ∷ open_links m hs acc) (open_links m hs acc))) [
  | true ↦ inr (open_in m g hs acc i o)
  | false ↦ open_in m g hs acc i o
]

pub from_open : (m : Mode) (l : Hop) (gs : List Gate) (acc : List Bool) → IsIn l (open_links m gs acc) → (g : Gate) × IsIn g gs × (l ≡ g.link) × (passes m g.test acc ≡ true)
from_open m l [] acc i = absurd i
from_open m l (h ∷ hs) acc i = go (passes m h.test acc) refl i (λ j. from_open m l hs acc j)
  where
    go : (v : Bool) → passes m h.test acc ≡ v → IsIn l (cond v (h.link ∷ open_links m hs acc) (open_links m hs acc)) → (IsIn l (open_links m hs acc) → (g : Gate) × IsIn g hs × (l ≡ g.link) × (passes m g.test acc ≡ true)) → (g : Gate) × IsIn g (h ∷ hs) × (l ≡ g.link) × (passes m g.test acc ≡ true)
    go true e (inl s) f = (h, inl refl, s, e)
    go true e (inr j) f = let r = f j in (r.0, inr r.1, r.2, r.3)
    go false e j f = let r = f j in (r.0, inr r.1, r.2, r.3)

pub eqb_same : (n : ℕ) → eqb n n ≡ true
eqb_same n = search rules

pub blocks_all : (m : Mode) (gs : List Gate) (from : ℕ) (acc : List Bool) → ((g : Gate) → IsIn g gs → g.link.from ≡ from → blocks m g.test acc ≡ true) → all_block m gs from acc ≡ true
blocks_all m [] from acc f = refl
blocks_all m (h ∷ hs) from acc f = go (eqb h.link.from from) (blocks m h.test acc) (λ e. f h (inl refl) (eqb-true h.link.from from e)) (blocks_all m hs from acc (λ g i. f g (inr i)))
  where
    go : (a b : Bool) → (a ≡ true → b ≡ true) → all_block m hs from acc ≡ true → ((not a || b) && all_block m hs from acc) ≡ true
    go true true k e = e
    go true false k e = absurd (false≢true (k refl))
    go false b k e = e

pub all_block_at : (m : Mode) (gs : List Gate) (from : ℕ) (acc : List Bool) → all_block m gs from acc ≡ true → (g : Gate) → IsIn g gs → g.link.from ≡ from → blocks m g.test acc ≡ true
all_block_at m [] from acc e g i s = absurd i
all_block_at m (h ∷ hs) from acc e g i s = go (eqb h.link.from from) (blocks m h.test acc) refl refl e i (λ k j. all_block_at m hs from acc k g j s)
  where
    go : (a b : Bool) → eqb h.link.from from ≡ a → blocks m h.test acc ≡ b → ((not a || b) && all_block m hs from acc) ≡ true → (g ≡ h) ⊎ IsIn g hs → (all_block m hs from acc ≡ true → IsIn g hs → blocks m g.test acc ≡ true) → blocks m g.test acc ≡ true
    go true true p r e (inl s) f = ap (λ (z : Gate). blocks m z.test acc) s ∙ r
    go true true p r e (inr j) f = f e j
    go true false p r e j f = absurd (false≢true e)
    go false b p r e (inl k) f = absurd (false≢true (sym p ∙ subst (λ (n : ℕ). eqb n from ≡ true) (sym (ap (λ (z : Gate). z.link.from) (sym k) ∙ s)) (eqb_same from)))
    go false b p r e (inr j) f = f e j

pub alternate_in : (xs es : List Exchange) (e : Exchange) (other : Text) → IsIn e es → e.alternate ≡ Some other → IsIn (record { from = node xs e.name; to = node xs other }) (alternate_links xs es)
alternate_in xs [] e other i a = absurd i
alternate_in xs (z ∷ zs) e other (inl s) a =
    in_front (record { from = node xs e.name; to = node xs other }) (alternate_link xs z.name z.alternate) (alternate_links xs zs)
    (subst (λ (v : Exchange). IsIn (record { from = node xs e.name; to = node xs other }) (alternate_link xs v.name v.alternate)) s
    (subst (λ (o : Option Text). IsIn (record { from = node xs e.name; to = node xs other }) (alternate_link xs e.name o)) (sym a) (inl refl)))
alternate_in xs (z ∷ zs) e other (inr i) a = in_back (record { from = node xs e.name; to = node xs other }) (alternate_link xs z.name z.alternate) (alternate_links xs zs) (alternate_in xs zs e other i a)

from_alternate : (xs : List Exchange) (name : Text) (o : Option Text) (l : Hop) → IsIn l (alternate_link xs name o) → (other : Text) × (o ≡ Some other) × (l ≡ record { from = node xs name; to = node xs other })
from_alternate xs name None l i = absurd i
from_alternate xs name (Some other) l (inl e) = (other, refl, e)
from_alternate xs name (Some other) l (inr i) = absurd i

pub from_alternates : (xs es : List Exchange) (l : Hop) → IsIn l (alternate_links xs es) → (e : Exchange) × (other : Text) × IsIn e es × (e.alternate ≡ Some other) × (l ≡ record { from = node xs e.name; to = node xs other })
from_alternates xs [] l i = absurd i
from_alternates xs (z ∷ zs) l i = elim (in-append l (alternate_link xs z.name z.alternate) (alternate_links xs zs) i) [
  | inl j ↦ let r = from_alternate xs z.name z.alternate l j in (z, r.0, inl refl, r.1, r.2)
  | inr j ↦ let r = from_alternates xs zs l j in (r.0, r.1, inr r.2, r.3, r.4)
]

pub blocked_in : (m : Mode) (gs : List Gate) (l : Hop) (ls : List Hop) (acc : List Bool) → IsIn l ls → all_block m gs l.from acc ≡ true → IsIn l (open_alternates m gs ls acc)
blocked_in m gs l [] acc i e = absurd i
blocked_in m gs l (k ∷ ks) acc (inl s) e = subst (λ (v : Bool). IsIn l (cond v (k ∷ open_alternates m gs ks acc) (open_alternates m gs ks acc))) (sym (ap (λ (z : Hop). all_block m gs z.from acc) (sym s) ∙ e)) (inl s)
blocked_in m gs l (k ∷ ks) acc (inr i) e = elim (all_block m gs k.from acc) as (λ v. IsIn l (cond v (k ∷ open_alternates m gs ks acc) (open_alternates m gs ks acc))) [
  | true ↦ inr (blocked_in m gs l ks acc i e)
  | false ↦ blocked_in m gs l ks acc i e
]

pub from_blocked : (m : Mode) (gs : List Gate) (l : Hop) (ls : List Hop) (acc : List Bool) → IsIn l (open_alternates m gs ls acc) → IsIn l ls × (all_block m gs l.from acc ≡ true)
from_blocked m gs l [] acc i = absurd i
from_blocked m gs l (k ∷ ks) acc i = go (all_block m gs k.from acc) refl i (λ j. from_blocked m gs l ks acc j)
  where
    go : (v : Bool) → all_block m gs k.from acc ≡ v → IsIn l (cond v (k ∷ open_alternates m gs ks acc) (open_alternates m gs ks acc)) → (IsIn l (open_alternates m gs ks acc) → IsIn l ks × (all_block m gs l.from acc ≡ true)) → IsIn l (k ∷ ks) × (all_block m gs l.from acc ≡ true)
    go true e (inl s) f = (inl s, ap (λ (z : Hop). all_block m gs z.from acc) s ∙ e)
    go true e (inr j) f = let r = f j in (inr r.0, r.1)
    go false e j f = let r = f j in (inr r.0, r.1)

has_queue_in : (name : Text) (qs : List DeclaredQueue) → ((q : DeclaredQueue) × IsIn q qs × (q.name ≡ name)) → has_queue qs name ≡ true
has_queue_in name [] (q, i, e) = absurd i
has_queue_in name (z ∷ zs) (q, i, e) = go (bytes_eq z.name name) (bytes_eq-Decides z.name name) i (λ j. has_queue_in name zs (q, j, e))
  where
    go : (v : Bool) → Decides v (z.name ≡ name) → (q ≡ z) ⊎ IsIn q zs → (IsIn q zs → has_queue zs name ≡ true) → (v || has_queue zs name) ≡ true
    go true d j f = refl
    go false d (inl s) f = absurd (false≢true (d.1 (ap (λ (w : DeclaredQueue). w.name) (sym s) ∙ e)))
    go false d (inr j) f = f j

from_has_queue : (name : Text) (qs : List DeclaredQueue) → has_queue qs name ≡ true → (q : DeclaredQueue) × IsIn q qs × (q.name ≡ name)
from_has_queue name [] e = absurd (false≢true e)
from_has_queue name (z ∷ zs) e = go (bytes_eq z.name name) (bytes_eq-Decides z.name name) e (λ k. from_has_queue name zs k)
  where
    go : (v : Bool) → Decides v (z.name ≡ name) → (v || has_queue zs name) ≡ true → (has_queue zs name ≡ true → (q : DeclaredQueue) × IsIn q zs × (q.name ≡ name)) → (q : DeclaredQueue) × IsIn q (z ∷ zs) × (q.name ≡ name)
    go true d k f = (z, inl refl, d.0 refl)
    go false d k f = let r = f k in (r.0, inr r.1, r.2)

same_end : (xs : List Exchange) (q : Text) → end_node xs q (destination.Queue q) ≡ 0
same_end xs q = go (bytes_eq q q) (bytes_eq-Decides q q)
  where
    go : (v : Bool) → Decides v (q ≡ q) → cond v zero (suc zero) ≡ zero
    go true d = refl
    go false d = absurd (false≢true (d.1 refl))

-- ---- edges and links

-- messages arrive, or, dead letters included, come
abbrev pub Arrives : Mode → Topology → Reading → Text → Text → Type 0
Arrives Reaches t r x q = RoutesBy t r x q
Arrives Never t r x q = Comes t r None x q

arrives_at : (m : Mode) (t : Topology) (r : Reading) (x q : Text) → Edge t r x (destination.Queue q) → Arrives m t r x q
arrives_at Reaches t r x q e = (x, here, e)
arrives_at Never t r x q e = routed (x, here, e)

arrives_on : (m : Mode) (t : Topology) (r : Reading) (x y q : Text) → Edge t r x (destination.Exchange y) → Arrives m t r y q → Arrives m t r x q
arrives_on Reaches t r x y q e (z, l, f) = (z, on e l, f)
arrives_on Never t r x y q e c = comes_on t r None x y q e c

-- where a key leads of which no more is known than a state tells
abbrev pub ways_at : Mode → Topology → Text → List Tracked → List ℕ → List Gate → List Hop
ways_at m t q ps ms deaths = open_ways m (gates_of t q ps ++ deaths) (alternate_links t.exchanges t.exchanges) (accepted ps ms)

module _ (m : Mode) (t : Topology) (q : Text) (ps : List Tracked) (ms : List ℕ) (deaths : List Gate) (entered : AreEntered t ps (IsEnd t q) (dying m t.queues) deaths) (formed : IsWellFormed t) (once : AreOnce ps) where
  abbrev Linked : ℕ → ℕ → Type 0
  Linked a b = (l : Hop) × IsIn l (ways_at m t q ps ms deaths) × (l.from ≡ a) × (l.to ≡ b)

  by_gate : (g : Gate) → IsIn g (gates_of t q ps ++ deaths) → passes m g.test (accepted ps ms) ≡ true → Linked g.link.from g.link.to
  by_gate g i o = (g.link, in_front g.link (open_links m (gates_of t q ps ++ deaths) (accepted ps ms)) (open_alternates m (gates_of t q ps ++ deaths) (alternate_links t.exchanges t.exchanges) (accepted ps ms)) (open_in m g (gates_of t q ps ++ deaths) (accepted ps ms) i o), refl, refl)

  kind_is : (e : Exchange) (name : Text) → Contains t.exchanges e → name ≡ e.name → kind_at t.exchanges name ≡ e.kind
  kind_is e name c s = ap (kind_at t.exchanges) s ∙ ap kind_or_direct (found_same t.exchanges e formed.exchanges_distinct (contained t.exchanges e c))

  -- a binding's test passes a key that its exchange lets pass
  lets_pass : (e : Exchange) (b : Binding) → Contains t.exchanges e → b.source ≡ e.name → (reading_by m ps ms).opens e.kind b.key → passes m (test_by ps (kind_at t.exchanges b.source) b.key) (accepted ps ms) ≡ true
  lets_pass e b c s o = subst (λ (k : ExchangeKind). passes m (test_by ps k b.key) (accepted ps ms) ≡ true) (sym (kind_is e b.source c s)) (opens_passes ps ms once m e.kind b.key o)

  by_binding_edge : (x : Text) (to : Destination) (e : Exchange) (b : Binding) → Contains t.exchanges e → e.name ≡ x → Binds t e to b → (reading_by m ps ms).opens e.kind b.key → Linked (node t.exchanges x) (end_node t.exchanges q to)
  by_binding_edge x to e b c n bs o =
      let g = gate_of t.exchanges q ps b in
      let r = by_gate g (in_front g (gates_of t q ps) deaths (in_gates t q ps b (contained t.bindings b bs.is_binding))) (lets_pass e b c bs.source o) in
      (r.0, r.1, r.2 ∙ ap (node t.exchanges) (bs.source ∙ n), r.3 ∙ ap (end_node t.exchanges q) bs.leads)

  source_in : (b : Binding) → IsIn b t.bindings → IsIn b.source (exchange_names t.exchanges)
  source_in b i = formed.sources b (has_place t.bindings b i)

  exchange_of : (name : Text) → IsIn name (exchange_names t.exchanges) → (e : Exchange) × IsIn e t.exchanges × (name ≡ e.name)
  exchange_of name i = from_map (λ (x : Exchange). x.name) name t.exchanges i

  name_in : (e : Exchange) → IsIn e t.exchanges → IsIn e.name (exchange_names t.exchanges)
  name_in e i = in_map (λ (x : Exchange). x.name) e t.exchanges i

  no_default : (e : Exchange) → IsIn e t.exchanges → node t.exchanges e.name ≡ 2 → ⊥
  no_default e i f = formed.none_is_default (subst (λ (z : Text). IsIn z (exchange_names t.exchanges)) (node_default t.exchanges e.name f) (name_in e i))

  -- the gates from an exchange none of whose bindings lets the key pass
  module _ (e : Exchange) (c : Contains t.exchanges e) (s : (to : Destination) (b : Binding) → Binds t e to b → (reading_by m ps ms).shuts e.kind b.key) where
    binding_blocks : (b : Binding) → IsIn b t.bindings → node t.exchanges b.source ≡ node t.exchanges e.name → blocks m (test_by ps (kind_at t.exchanges b.source) b.key) (accepted ps ms) ≡ true
    binding_blocks b i f =
        let same : b.source ≡ e.name = node_same t.exchanges b.source e.name formed.none_is_default (source_in b i) f in
        subst (λ (k : ExchangeKind). blocks m (test_by ps k b.key) (accepted ps ms) ≡ true) (sym (kind_is e b.source c same))
        (shuts_blocks ps ms once m e.kind b.key (s b.to b (record { is_binding = has_place t.bindings b i; source = same; leads = refl })))

    gate_blocks : (g : Gate) → IsIn g (gates_of t q ps ++ deaths) → g.link.from ≡ node t.exchanges e.name → blocks m g.test (accepted ps ms) ≡ true
    gate_blocks g i f = elim (in-append g (gates_of t q ps) deaths i) [
      | inl j ↦ elim (from_gates t q ps g j) [
        | inl r ↦ ap (λ (z : Gate). blocks m z.test (accepted ps ms)) r.2 ∙ binding_blocks r.0 r.1 (ap (λ (z : Gate). z.link.from) (sym r.2) ∙ f)
        | inr r ↦ absurd (no_default e (contained t.exchanges e c) (sym f ∙ ap (λ (z : Gate). z.link.from) r.1))
      ]
      | inr j ↦ elim (from_entered t ps (IsEnd t q) g entered j).way [
        | inl r ↦ ap (λ (z : Test). blocks m z (accepted ps ms)) r.4 ∙ binding_blocks r.0 r.1 (sym r.3 ∙ f)
        | inr r ↦ absurd (no_default e (contained t.exchanges e c) (sym f ∙ r.0))
      ]
    ]

  by_alternate_edge : (x other : Text) (e : Exchange) → Contains t.exchanges e → e.name ≡ x → e.alternate ≡ Some other → ((to : Destination) (b : Binding) → Binds t e to b → (reading_by m ps ms).shuts e.kind b.key) → Linked (node t.exchanges x) (node t.exchanges other)
  by_alternate_edge x other e c n a s =
      let l : Hop = record { from = node t.exchanges e.name; to = node t.exchanges other } in (
        l,
        in_back l (open_links m (gates_of t q ps ++ deaths) (accepted ps ms)) (open_alternates m (gates_of t q ps ++ deaths) (alternate_links t.exchanges t.exchanges) (accepted ps ms))
            (blocked_in m (gates_of t q ps ++ deaths) l (alternate_links t.exchanges t.exchanges) (accepted ps ms) (alternate_in t.exchanges t.exchanges e other (contained t.exchanges e c) a) (blocks_all m (gates_of t q ps ++ deaths) (node t.exchanges e.name) (accepted ps ms) (gate_blocks e c s))),
        ap (node t.exchanges) n,
        refl,
      )

  onward_link : (x y : Text) → Edge t (reading_by m ps ms) x (destination.Exchange y) → Linked (node t.exchanges x) (node t.exchanges y)
  onward_link x y (bound e b c n bs o) = by_binding_edge x (destination.Exchange y) e b c n bs o
  onward_link x y (alternate e c n a s) = by_alternate_edge x y e c n a s

  into_link : (x : Text) (p : Text) → p ≡ q → Edge t (reading_by m ps ms) x (destination.Queue p) → Linked (node t.exchanges x) 0
  into_link x p same (bound e b c n bs o) = let r = by_binding_edge x (destination.Queue p) e b c n bs o in (r.0, r.1, r.2, r.3 ∙ ap (λ (z : Text). end_node t.exchanges q (destination.Queue z)) same ∙ same_end t.exchanges q)
  into_link x p same (default d c n o) =
      by_gate (default_gate ps q) (in_front (default_gate ps q) (gates_of t q ps) deaths (default_in t q ps (has_queue_in q t.queues (d, contained t.queues d c, n ∙ same))))
      (names_passes ps ms once m q (subst (λ (z : Text). (reading_by m ps ms).names z) same o))

  -- into a queue whose dead letters lead on
  death_link : (x p : Text) (last : DeclaredQueue) (w : ToDeath t ps (IsEnd t q) last deaths) (n : ℕ) → w.end ≡ Some n → last.name ≡ p → Edge t (reading_by m ps ms) x (destination.Queue p) → Linked (node t.exchanges x) n
  death_link x p last w n e same (bound ex b c nm bs o) =
      let r = by_gate (entry t.exchanges ps n b) (in_back (entry t.exchanges ps n b) (gates_of t q ps) deaths (w.bound n e b (contained t.bindings b bs.is_binding) (bs.leads ∙ ap (λ (z : Text). destination.Queue z) (sym same)))) (lets_pass ex b c bs.source o) in
      (r.0, r.1, r.2 ∙ ap (node t.exchanges) (bs.source ∙ nm), r.3)
  death_link x p last w n e same (default d c nm o) =
      by_gate (default_entry ps last.name n) (in_back (default_entry ps last.name n) (gates_of t q ps) deaths (w.default n e))
      (names_passes ps ms once m last.name (subst (λ (z : Text). (reading_by m ps ms).names z) (sym same) o))

  leads_chain : {x y : Text} → Leads t (reading_by m ps ms) x y → Chain (ways_at m t q ps ms deaths) (node t.exchanges y) 0 → Chain (ways_at m t q ps ms deaths) (node t.exchanges x) 0
  leads_chain here c = c
  leads_chain (on {x = x} {y = y} e l) c = let r = onward_link x y e in along r.0 r.1 r.2 r.3 (leads_chain l c)

  routes_chain : (x : Text) → RoutesBy t (reading_by m ps ms) x q → Chain (ways_at m t q ps ms deaths) (node t.exchanges x) 0
  routes_chain x (y, l, e) = let r = into_link y q refl e in leads_chain l (along r.0 r.1 r.2 r.3 still)

  death_chain : (x p : Text) (last : DeclaredQueue) (w : ToDeath t ps (IsEnd t q) last deaths) (n : ℕ) → w.end ≡ Some n → last.name ≡ p → RoutesBy t (reading_by m ps ms) x p → Chain (ways_at m t q ps ms deaths) n 0 → Chain (ways_at m t q ps ms deaths) (node t.exchanges x) 0
  death_chain x p last w n e same (y, l, f) c = let r = death_link y p last w n e same f in leads_chain l (along r.0 r.1 r.2 r.3 c)

  comes_chain : {fixed : Option Text} {x p : Text} → Comes t (reading_by m ps ms) fixed x p → fixed ≡ None → p ≡ q → m ≡ Never → Chain (ways_at m t q ps ms deaths) (node t.exchanges x) 0
  comes_chain {fixed = fixed} {x = x} {p = p} (routed ro) e same never =
      routes_chain x (subst (λ (z : Text). RoutesBy t (reading_by m ps ms) x z) same (subst (λ (f : Option Text). RoutesBy t (reading_after f (reading_by m ps ms)) x p) e ro))
  comes_chain {fixed = fixed} {x = x} {p = end} (dead {p = p} {exchange = exchange} last ro d c) e same never =
      go last.dead_letter_key (λ f. comes_chain c (f ∙ e) same never) (λ k f. subst (λ (z : Text). Comes t (of_key k) None exchange z) same (fixed_sent t (reading_by m ps ms) k c f))
      (subst (λ (o : Option Text). GoOn t q o last.dead_letter_key w.end) d.dead w.ends)
    where
      w : ToDeath t ps (IsEnd t q) last deaths
      w = to_entered t ps (IsEnd t q) last entered (dying_has m t.queues last never (contained t.queues last d.is_queue))

      route : RoutesBy t (reading_by m ps ms) x p
      route = subst (λ (f : Option Text). RoutesBy t (reading_after f (reading_by m ps ms)) x p) e ro

      go : (o : Option Text) → (fixed_after o fixed ≡ fixed → Chain (ways_at m t q ps ms deaths) (node t.exchanges exchange) 0) → ((k : Text) → fixed_after o fixed ≡ Some k → Comes t (of_key k) None exchange q) → GoOn t q (Some exchange) o w.end → Chain (ways_at m t q ps ms deaths) (node t.exchanges x) 0
      go None f g h = death_chain x p last w (node t.exchanges exchange) h d.is_named route (f refl)
      go (Some k) f g h = death_chain x p last w 0 (fixed_goes t q exchange k w.end h (g k refl)) d.is_named route still

  -- a link is an edge, or leads on from a queue that an edge enters
  record FromEdge (l : Hop) : Type 0 where
    pub name : Text
    pub source : IsIn name (exchange_names t.exchanges) ⊎ (name ≡ [])
    pub from_is : l.from ≡ node t.exchanges name
    pub leads : ((to : Destination) × Edge t (reading_by m ps ms) name to × (l.to ≡ end_node t.exchanges q to)) ⊎ ((last : DeclaredQueue) × IsIn last (dying m t.queues) × Edge t (reading_by m ps ms) name (destination.Queue last.name) × IsEnd t q last (Some l.to))

  binding_edge : (b : Binding) (to : Destination) → IsIn b t.bindings → b.to ≡ to → passes m (test_by ps (kind_at t.exchanges b.source) b.key) (accepted ps ms) ≡ true → Edge t (reading_by m ps ms) b.source to
  binding_edge b to i leads o =
      let e = exchange_of b.source (source_in b i) in
      let opens = passes_opens ps ms once m e.0.kind b.key (subst (λ (k : ExchangeKind). passes m (test_by ps k b.key) (accepted ps ms) ≡ true) (kind_is e.0 b.source (has_place t.exchanges e.0 e.1) e.2) o) in
      bound e.0 b (has_place t.exchanges e.0 e.1) (sym e.2) (record { is_binding = has_place t.bindings b i; source = e.2; leads = leads }) opens

  default_edge : (d : DeclaredQueue) → IsIn d t.queues → passes m (Pattern (tracked_index ps Direct d.name)) (accepted ps ms) ≡ true → Edge t (reading_by m ps ms) [] (destination.Queue d.name)
  default_edge d i o = default d (has_place t.queues d i) refl (passes_names ps ms once m d.name o)

  edge_of : (l : Hop) → IsIn l (ways_at m t q ps ms deaths) → FromEdge l
  edge_of l i = elim (in-append l (open_links m (gates_of t q ps ++ deaths) (accepted ps ms)) (open_alternates m (gates_of t q ps ++ deaths) (alternate_links t.exchanges t.exchanges) (accepted ps ms)) i) [
    | inl j ↦ by_open (from_open m l (gates_of t q ps ++ deaths) (accepted ps ms) j)
    | inr j ↦ by_alternate (from_blocked m (gates_of t q ps ++ deaths) l (alternate_links t.exchanges t.exchanges) (accepted ps ms) j)
  ]
    where
      by_gates : (g : Gate) → IsIn g (gates_of t q ps) → l ≡ g.link → passes m g.test (accepted ps ms) ≡ true → FromEdge l
      by_gates g i s o = elim (from_gates t q ps g i) [
        | inl r ↦ record {
          name = r.0.source;
          source = inl (source_in r.0 r.1);
          from_is = ap (λ (z : Hop). z.from) s ∙ ap (λ (z : Gate). z.link.from) r.2;
          leads = inl (r.0.to, binding_edge r.0 r.0.to r.1 refl (subst (λ (z : Gate). passes m z.test (accepted ps ms) ≡ true) r.2 o), ap (λ (z : Hop). z.to) s ∙ ap (λ (z : Gate). z.link.to) r.2);
        }
        | inr r ↦
            let d = from_has_queue q t.queues r.0 in
            record {
              name = [];
              source = inr refl;
              from_is = ap (λ (z : Hop). z.from) s ∙ ap (λ (z : Gate). z.link.from) r.1;
              leads = inl (
                destination.Queue d.0.name,
                default_edge d.0 d.1 (subst (λ (z : Text). passes m (Pattern (tracked_index ps Direct z)) (accepted ps ms) ≡ true) (sym d.2) (subst (λ (z : Gate). passes m z.test (accepted ps ms) ≡ true) r.1 o)),
                ap (λ (z : Hop). z.to) s ∙ ap (λ (z : Gate). z.link.to) r.1 ∙ sym (ap (λ (z : Text). end_node t.exchanges q (destination.Queue z)) d.2 ∙ same_end t.exchanges q),
              );
            }
      ]

      by_deaths : (g : Gate) → IsIn g deaths → l ≡ g.link → passes m g.test (accepted ps ms) ≡ true → FromEdge l
      by_deaths g i s o =
          let w = from_entered t ps (IsEnd t q) g entered i in
          let ends : IsEnd t q w.last (Some l.to) = subst (λ (z : Hop). IsEnd t q w.last (Some z.to)) (sym s) w.ends in
          elim w.way [
            | inl r ↦ record {
              name = r.0.source;
              source = inl (source_in r.0 r.1);
              from_is = ap (λ (z : Hop). z.from) s ∙ r.3;
              leads = inr (w.last, w.is_in, binding_edge r.0 (destination.Queue w.last.name) r.1 r.2 (subst (λ (z : Test). passes m z (accepted ps ms) ≡ true) r.4 o), ends);
            }
            | inr r ↦ record {
              name = [];
              source = inr refl;
              from_is = ap (λ (z : Hop). z.from) s ∙ r.0;
              leads = inr (w.last, w.is_in, default_edge w.last (dying_tells m t.queues w.last w.is_in).1 (subst (λ (z : Test). passes m z (accepted ps ms) ≡ true) r.1 o), ends);
            }
          ]

      by_open : ((g : Gate) × IsIn g (gates_of t q ps ++ deaths) × (l ≡ g.link) × (passes m g.test (accepted ps ms) ≡ true)) → FromEdge l
      by_open (g, i, s, o) = elim (in-append g (gates_of t q ps) deaths i) [
        | inl j ↦ by_gates g j s o
        | inr j ↦ by_deaths g j s o
      ]

      by_alternate : IsIn l (alternate_links t.exchanges t.exchanges) × (all_block m (gates_of t q ps ++ deaths) l.from (accepted ps ms) ≡ true) → FromEdge l
      by_alternate (i, s) =
          let r = from_alternates t.exchanges t.exchanges l i in
          let e = alternate r.0 (has_place t.exchanges r.0 r.2) refl r.3 (λ to b bs.
          blocks_shuts ps ms once m r.0.kind b.key
          (subst (λ (k : ExchangeKind). blocks m (test_by ps k b.key) (accepted ps ms) ≡ true) (kind_is r.0 b.source (has_place t.exchanges r.0 r.2) bs.source)
          (all_block_at m (gates_of t q ps ++ deaths) l.from (accepted ps ms) s (gate_of t.exchanges q ps b) (in_front (gate_of t.exchanges q ps b) (gates_of t q ps) deaths (in_gates t q ps b (contained t.bindings b bs.is_binding))) (ap (node t.exchanges) bs.source ∙ sym (ap (λ (z : Hop). z.from) r.4))))) in
          record {
            name = r.0.name;
            source = inl (name_in r.0 r.2);
            from_is = ap (λ (z : Hop). z.from) r.4;
            leads = inl (destination.Exchange r.1, e, ap (λ (z : Hop). z.to) r.4);
          }

  same_source : (name x : Text) → IsIn name (exchange_names t.exchanges) ⊎ (name ≡ []) → node t.exchanges name ≡ node t.exchanges x → name ≡ x
  same_source name x (inl i) e = node_same t.exchanges name x formed.none_is_default i e
  same_source name x (inr s) e = s ∙ sym (node_default t.exchanges x (sym e ∙ ap (node t.exchanges) s))

  -- from places that are no exchanges nothing leads on
  elsewhere : {a b : ℕ} → Chain (ways_at m t q ps ms deaths) a b → a ≡ 1 → b ≡ 0 → ⊥
  elsewhere still g k = omega arith
  elsewhere (along l i f u rest) g k = let w = edge_of l i in let h = node_above t.exchanges w.name in let n = w.from_is in omega arith

  -- from an exchange into a queue whose dead letters lead on
  death_arrives : (x : Text) (last : DeclaredQueue) (n : ℕ) → IsIn last (dying m t.queues) → Edge t (reading_by m ps ms) x (destination.Queue last.name) → IsEnd t q last (Some n) → ((y : Text) → n ≡ node t.exchanges y → Arrives m t (reading_by m ps ms) y q) → Arrives m t (reading_by m ps ms) x q
  death_arrives x last n i e ends onward =
      let w = dying_tells m t.queues last i in
      subst (λ (z : Mode). Arrives z t (reading_by m ps ms) x q) (sym w.0) (go last.dead_letter_exchange last.dead_letter_key refl refl ends w)
    where
      go : (o k : Option Text) → last.dead_letter_exchange ≡ o → last.dead_letter_key ≡ k → GoOn t q o k (Some n) → (m ≡ Never) × IsIn last t.queues → Comes t (reading_by m ps ms) None x q
      go None k f g h w = absurd (let z : Some n ≡ None = h in cc)
      go (Some y) None f g h w =
          dead last (x, here, e) (record { is_queue = has_place t.queues last w.1; is_named = refl; dead = f })
          (subst (λ (z : Option Text). Comes t (reading_by m ps ms) (fixed_after z None) y q) (sym g)
          (subst (λ (z : Mode). Arrives z t (reading_by m ps ms) y q) w.0 (onward y (let z : Some n ≡ Some (node t.exchanges y) = h in cc))))
      go (Some y) (Some k) f g h w =
          dead last (x, here, e) (record { is_queue = has_place t.queues last w.1; is_named = refl; dead = f })
          (subst (λ (z : Option Text). Comes t (reading_by m ps ms) (fixed_after z None) y q) (sym g) (sent_fixed t (reading_by m ps ms) k h.1 refl))

  pub chain_arrives : {a b : ℕ} → Chain (ways_at m t q ps ms deaths) a b → b ≡ 0 → (x : Text) → a ≡ node t.exchanges x → Arrives m t (reading_by m ps ms) x q
  chain_arrives still z x e = absurd (let h = node_above t.exchanges x in omega arith)
  chain_arrives (along {b = b} {c = last} l i f u rest) z x e =
      let w = edge_of l i in
      let same = same_source w.name x w.source (sym w.from_is ∙ f ∙ e) in
      elim w.leads [
        | inl r ↦ go r.0 (subst (λ (v : Text). Edge t (reading_by m ps ms) v r.0) same r.1) (sym u ∙ r.2) rest (λ y k. chain_arrives rest z y k)
        | inr r ↦ death_arrives x r.0 l.to r.1 (subst (λ (v : Text). Edge t (reading_by m ps ms) v (destination.Queue r.0.name)) same r.2) r.3 (λ y k. chain_arrives rest z y (sym u ∙ k))
      ]
    where
      go : (to : Destination) → Edge t (reading_by m ps ms) x to → b ≡ end_node t.exchanges q to → Chain (ways_at m t q ps ms deaths) b last → ((y : Text) → b ≡ node t.exchanges y → Arrives m t (reading_by m ps ms) y q) → Arrives m t (reading_by m ps ms) x q
      go (destination.Exchange y) d k c r = arrives_on m t (reading_by m ps ms) x y q d (r y k)
      go (destination.Queue p) d k c r = at (bytes_eq p q) (bytes_eq-Decides p q) k
        where
          at : (v : Bool) → Decides v (p ≡ q) → b ≡ cond v 0 1 → Arrives m t (reading_by m ps ms) x q
          at true n k = arrives_at m t (reading_by m ps ms) x q (subst (λ (z : Text). Edge t (reading_by m ps ms) x (destination.Queue z)) (n.0 refl) d)
          at false n k = absurd (elsewhere c k z)

-- the other way round, by the mode
pub arrives_chain : (m : Mode) (t : Topology) (q : Text) (ps : List Tracked) (ms : List ℕ) (deaths : List Gate) → AreEntered t ps (IsEnd t q) (dying m t.queues) deaths → IsWellFormed t → AreOnce ps → (x : Text) → Arrives m t (reading_by m ps ms) x q → Chain (ways_at m t q ps ms deaths) (node t.exchanges x) 0
arrives_chain Reaches t q ps ms deaths entered formed once x r = routes_chain Reaches t q ps ms deaths entered formed once x r
arrives_chain Never t q ps ms deaths entered formed once x c = comes_chain Never t q ps ms deaths entered formed once c refl refl refl
