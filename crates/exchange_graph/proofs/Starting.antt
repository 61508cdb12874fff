-- Where a route begins.
use Rattle.exchange_graph.proofs.Names.{◌≡◌, ℕ, zero, suc, ◌<◌, [], ◌∷◌, Bool, true, false, refl, sym, ap, ◌∙◌, subst, length, set, replicate, eqb, inl, inr, arith, Contains, length-map, length-set, length-replicate, Text, Topology, IsIn, IsWellFormed, exchange_names, queue_names, Reading, Edge, bound, alternate, default, Leads, here, on, Routes, of_key, Exchange, DeclaredQueue, Destination, End, Onward, Into, destination_of, IsMet, IsSet, Arrives, Reaching, AreFound, AreSeen, exchange_name, queue_name, in_map, in_contains, in_get}
use Rattle.model.specs.declared.topologies.Destination.TheVariants as destination
use Rattle.exchange_graph.proofs.Marking.{set_only, set_here}
use Rattle.exchange_graph.proofs.Naming.{apart_same, one_at}

none_set : (n i : ℕ) → IsSet (replicate n false) i → ⊥
none_set zero i h = cc
none_set (suc n) zero h = cc
none_set (suc n) (suc i) h = none_set n i h

-- ---- from an exchange that is there

first_sound : (t : Topology) (start key : Text) (at n m : ℕ) → exchange_name t at ≡ start → (e : End) → IsMet (set (replicate n false) at true) (replicate m false) e → Arrives t start key (destination_of t e)
first_sound t start key at n m q (Onward j) h = elim (set_only (replicate n false) at j h) [
  | inl p ↦ absurd (none_set n j p)
  | inr p ↦ subst (λ (x : Text). Leads t (of_key key) start x) (sym (ap (λ (i : ℕ). exchange_name t i) p ∙ q)) here
]
first_sound t start key at n m q (Into j) h = absurd (none_set m j h)

pub begins : (t : Topology) (start key : Text) (at n m : ℕ) → n ≡ length t.exchanges → m ≡ length t.queues → at < n → exchange_name t at ≡ start
    → Reaching t start key (set (replicate n false) at true) (replicate m false) (replicate n false)
begins t start key at n m a b h q = record {
  room = record { exchanges = length-set (replicate n false) at true ∙ length-replicate n false ∙ a; queues = length-replicate m false ∙ b };
  done_room = length-replicate n false ∙ a;
  begun = (at, set_here (replicate n false) at (rw (length-replicate n false) h), q);
  sound = first_sound t start key at n m q;
  closed = λ i p. absurd (none_set n i p);
}

-- ---- from one that is not

no_edge : {t : Topology} {r : Reading} {name : Text} {to : Destination} → Edge t r name to → (name ≡ [] → ⊥) → (IsIn name (exchange_names t.exchanges) → ⊥) → ⊥
no_edge {t} (bound x b c e s p) some absent = absent (subst (λ (n : Text). IsIn n (exchange_names t.exchanges)) e (in_map (λ (y : Exchange). y.name) t.exchanges x (in_contains t.exchanges x c)))
no_edge {t} (alternate x c e o s) some absent = absent (subst (λ (n : Text). IsIn n (exchange_names t.exchanges)) e (in_map (λ (y : Exchange). y.name) t.exchanges x (in_contains t.exchanges x c)))
no_edge (default q c e n) some absent = some refl

no_route : {t : Topology} {r : Reading} {x y : Text} (q : Text) → Leads t r x y → Edge t r y (destination.Queue q) → (x ≡ [] → ⊥) → (IsIn x (exchange_names t.exchanges) → ⊥) → ⊥
no_route q here s some absent = no_edge s some absent
no_route q (on f l) s some absent = no_edge f some absent

pub nothing_found : (t : Topology) (start key : Text) (m : ℕ) → m ≡ length t.queues → (start ≡ [] → ⊥) → (IsIn start (exchange_names t.exchanges) → ⊥) → AreFound t start key (replicate m false)
nothing_found t start key m b some absent = record {
  room = length-replicate m false ∙ b;
  sound = λ i h p. absurd (none_set m i p);
  all = λ i h s. absurd (no_route (queue_name t i) s.1 s.2 some absent);
}

-- no exchange leads on from it
alone : {t : Topology} {r : Reading} {x y : Text} → Leads t r x y → (IsIn x (exchange_names t.exchanges) → ⊥) → x ≡ y
alone here absent = refl
alone (on s l) absent = absurd (no_onward s refl absent)
  where
    no_onward : {t : Topology} {r : Reading} {name z : Text} {to : Destination} → Edge t r name to → to ≡ destination.Exchange z → (IsIn name (exchange_names t.exchanges) → ⊥) → ⊥
    no_onward {t} (bound x b c e s p) q absent = absent (subst (λ (n : Text). IsIn n (exchange_names t.exchanges)) e (in_map (λ (y : Exchange). y.name) t.exchanges x (in_contains t.exchanges x c)))
    no_onward {t} (alternate x c e o s) q absent = absent (subst (λ (n : Text). IsIn n (exchange_names t.exchanges)) e (in_map (λ (y : Exchange). y.name) t.exchanges x (in_contains t.exchanges x c)))
    no_onward (default d c e n) q absent = cc

pub nothing_seen : (t : Topology) (start key : Text) (m : ℕ) → m ≡ length t.exchanges → (IsIn start (exchange_names t.exchanges) → ⊥) → AreSeen t start key (replicate m false)
nothing_seen t start key m b absent = record {
  room = length-replicate m false ∙ b;
  sound = λ i h p. absurd (none_set m i p);
  all = λ i h l. absurd (absent (
      let n : length (exchange_names t.exchanges) ≡ length t.exchanges = length-map t.exchanges (λ (z : Exchange). z.name) in
      subst (λ (x : Text). IsIn x (exchange_names t.exchanges)) (sym (alone l absent)) (in_get (exchange_names t.exchanges) i [] (omega (arith, n, h)))));
}

-- ---- from the default exchange

-- its one step
record IsNamed (t : Topology) (key : Text) (to : Destination) : Type 0 where
  queue : Text
  leads : to ≡ destination.Queue queue
  there : IsIn queue (queue_names t.queues)
  same : queue ≡ key

no_name : (t : Topology) (name : Text) (x : Exchange) → IsWellFormed t → Contains t.exchanges x → x.name ≡ name → name ≡ [] → ⊥
no_name t name x w c e z = w.none_is_default (subst (λ (n : Text). IsIn n (exchange_names t.exchanges)) (e ∙ z) (in_map (λ (y : Exchange). y.name) t.exchanges x (in_contains t.exchanges x c)))

default_edge : {t : Topology} {key name : Text} {to : Destination} → IsWellFormed t → Edge t (of_key key) name to → name ≡ [] → IsNamed t key to
default_edge {t} w (bound {name} x b c e s p) z = absurd (no_name t name x w c e z)
default_edge {t} w (alternate {name} x c e o s) z = absurd (no_name t name x w c e z)
default_edge {t} w (default {queue = queue} q c e n) z = record {
  queue = queue;
  leads = refl;
  same = n;
  there = subst (λ (x : Text). IsIn x (queue_names t.queues)) e (in_map (λ (y : DeclaredQueue). y.name) t.queues q (in_contains t.queues q c));
}

pub default_leads : {t : Topology} {key x y : Text} → IsWellFormed t → Leads t (of_key key) x y → x ≡ [] → y ≡ []
default_leads w here z = z
default_leads w (on s l) z = let d = default_edge w s z in absurd (let e = d.leads in cc)

-- the name of a queue that the default exchange leads to is the key
default_named : (t : Topology) (key q : Text) → IsWellFormed t → Routes t [] key q → (q ≡ key) × IsIn q (queue_names t.queues)
default_named t key q w s =
    let d = default_edge w s.2 (default_leads w s.1 refl) in
    let e = d.leads in
    let same : q ≡ d.queue = cc in
    (same ∙ d.same, subst (λ (x : Text). IsIn x (queue_names t.queues)) (sym same) d.there)

pub default_none : (t : Topology) (key : Text) (m : ℕ) → m ≡ length t.queues → IsWellFormed t → (IsIn key (queue_names t.queues) → ⊥) → AreFound t [] key (replicate m false)
default_none t key m b w absent = record {
  room = length-replicate m false ∙ b;
  sound = λ i h p. absurd (none_set m i p);
  all = λ i h s. (let d = default_named t key (queue_name t i) w s in absurd (absent (subst (λ (x : Text). IsIn x (queue_names t.queues)) d.0 d.1)));
}

default_sound : (t : Topology) (key : Text) (i : ℕ) → i < length t.queues → queue_name t i ≡ key → Routes t [] key (queue_name t i)
default_sound t key i h q =
    let m = one_at (λ (y : DeclaredQueue). y.name) t.queues i h in
    ([], here, default m.0 m.1.is_one m.1.named q)

pub default_one : (t : Topology) (key : Text) (m at : ℕ) → m ≡ length t.queues → IsWellFormed t → at < length t.queues → queue_name t at ≡ key → AreFound t [] key (set (replicate m false) at true)
default_one t key m at b w h q = record {
  room = length-set (replicate m false) at true ∙ length-replicate m false ∙ b;
  sound = λ i k p. (elim (set_only (replicate m false) at i p) [
    | inl z ↦ absurd (none_set m i z)
    | inr z ↦ default_sound t key i k (ap (λ (n : ℕ). queue_name t n) z ∙ q)
  ]);
  all = λ i k s. (
      let n : length (queue_names t.queues) ≡ length t.queues = length-map t.queues (λ (y : DeclaredQueue). y.name) in
      let same : at ≡ i = apart_same (queue_names t.queues) at i w.queues_distinct (omega (arith, n, h)) (omega (arith, n, k)) (q ∙ sym (default_named t key (queue_name t i) w s).0) in
      subst (λ (j : ℕ). IsSet (set (replicate m false) at true) j) same (set_here (replicate m false) at (rw (length-replicate m false) (omega (arith, b, h)))));
}

pub not_empty : (xs : Text) (b : Bool) → b ≡ eqb (length xs) 0 → b ≡ false → xs ≡ [] → ⊥
not_empty [] b e f z = cc
not_empty (x ∷ xs) b e f z = cc
