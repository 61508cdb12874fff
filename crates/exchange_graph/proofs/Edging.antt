-- Single steps of a route, by names.
use Rattle.exchange_graph.proofs.Names.{◌≡◌, ℕ, ◌<◌, List, [], ◌∷◌, Bool, true, false, refl, sym, ap, ◌∙◌, subst, length, inl, inr, eqb, eq-eqb, arith, Decides, Contains, ◌||◌, bytes_eq, bytes_eq-Decides, list_any, eqb-true, length-map, Text, Topology, IsIn, IsWellFormed, IsThere, exchange_names, queue_names, Reading, Edge, bound, alternate, default, of_key, Exchange, DeclaredQueue, Destination, End, Onward, Into, AreSteps, destination_of, EndsWithin, exchange_name, queue_name, in_contains, in_map}
use Rattle.model.specs.declared.topologies.Destination.TheVariants as destination
use Rattle.exchange_graph.specs.Edges.{LeadsToQueue, LeadsOn, is_into, is_onward}
use Rattle.exchange_graph.proofs.Naming.{apart_same, one_at}

-- ---- what leads on is there

-- an exchange that leads on is there
pub on_from_there : {t : Topology} {r : Reading} {name other : Text} {to : Destination} → Edge t r name to → to ≡ destination.Exchange other → IsIn name (exchange_names t.exchanges)
on_from_there {t} (bound x b c e s p) q = subst (λ (n : Text). IsIn n (exchange_names t.exchanges)) e (in_map (λ (y : Exchange). y.name) t.exchanges x (in_contains t.exchanges x c))
on_from_there {t} (alternate x c e o s) q = subst (λ (n : Text). IsIn n (exchange_names t.exchanges)) e (in_map (λ (y : Exchange). y.name) t.exchanges x (in_contains t.exchanges x c))
on_from_there (default d c e n) q = absurd (cc)

-- and so is one that leads into a queue, but for the default exchange
pub in_from_there : {t : Topology} {r : Reading} {name : Text} {to : Destination} → Edge t r name to → (name ≡ [] → ⊥) → IsIn name (exchange_names t.exchanges)
in_from_there {t} (bound x b c e s p) some = subst (λ (n : Text). IsIn n (exchange_names t.exchanges)) e (in_map (λ (y : Exchange). y.name) t.exchanges x (in_contains t.exchanges x c))
in_from_there {t} (alternate x c e o s) some = subst (λ (n : Text). IsIn n (exchange_names t.exchanges)) e (in_map (λ (y : Exchange). y.name) t.exchanges x (in_contains t.exchanges x c))
in_from_there (default d c e n) some = absurd (some refl)

-- what is led to is there
pub end_there : {t : Topology} {r : Reading} {name : Text} {to : Destination} → IsWellFormed t → Edge t r name to → IsThere t to
end_there {t} w (bound x b c e s p) = subst (λ (z : Destination). IsThere t z) s.leads (w.ends b s.is_binding)
end_there {t} w (alternate {other = other} x c e o s) = w.alternates x other c o
end_there {t} w (default q c e n) = subst (λ (z : Text). IsIn z (queue_names t.queues)) e (in_map (λ (y : DeclaredQueue). y.name) t.queues q (in_contains t.queues q c))

-- ---- ends

onward_same : (at : ℕ) (e : End) → is_onward at e ≡ true → Onward at ≡ e
onward_same at (Onward i) h = ap (λ (n : ℕ). Onward n) (sym (eqb-true i at h))
onward_same at (Into i) h = absurd (cc)

into_same : (at : ℕ) (e : End) → is_into at e ≡ true → Into at ≡ e
into_same at (Onward i) h = absurd (cc)
into_same at (Into i) h = ap (λ (n : ℕ). Into n) (sym (eqb-true i at h))

same_onward : (at : ℕ) (e : End) → Onward at ≡ e → is_onward at e ≡ true
same_onward at e q = subst (λ (z : End). is_onward at z ≡ true) q (eq-eqb at at refl)

same_into : (at : ℕ) (e : End) → Into at ≡ e → is_into at e ≡ true
same_into at e q = subst (λ (z : End). is_into at z ≡ true) q (eq-eqb at at refl)

any_at : (end e : End) (es : List End) (v w : Bool) → (v ≡ true → end ≡ e) → (end ≡ e → v ≡ true) → Decides w (IsIn end es) → Decides (v || w) (IsIn end (e ∷ es))
any_at end e es true w to from ih = (λ h. inl (to refl), λ h. refl)
any_at end e es false w to from ih = (λ h. inr (ih.0 h), λ h. (elim h [ inl q ↦ absurd (let z : false ≡ true = from q in cc) | inr r ↦ ih.1 r ]))

-- some end passes a test that only this one passes
any_end : (test : End → Bool) (end : End) → ((e : End) → test e ≡ true → end ≡ e) → ((e : End) → end ≡ e → test e ≡ true) → (ends : List End) → Decides (list_any test ends) (IsIn end ends)
any_end test end to from [] = (λ h. absurd (cc), λ h. absurd h)
any_end test end to from (e ∷ es) = any_at end e es (test e) (list_any test es) (to e) (from e) (any_end test end to from es)

-- ---- from an exchange that is there

pub no_source : (t : Topology) (key name other : Text) → (IsIn name (exchange_names t.exchanges) → ⊥) → Decides false (LeadsOn t key name other)
no_source t key name other absent = (λ h. absurd (cc), λ s. absurd (absent (on_from_there s refl)))

pub no_target : (t : Topology) (key name other : Text) → IsWellFormed t → (IsIn other (exchange_names t.exchanges) → ⊥) → Decides false (LeadsOn t key name other)
no_target t key name other w absent = (λ h. absurd (cc), λ s. absurd (absent (end_there w s)))

pub no_queue : (t : Topology) (key name queue : Text) → IsWellFormed t → (IsIn queue (queue_names t.queues) → ⊥) → Decides false (LeadsToQueue t key name queue)
no_queue t key name queue w absent = (λ h. absurd (cc), λ s. absurd (absent (end_there w s)))

pub no_fan : (t : Topology) (key name queue : Text) → (name ≡ [] → ⊥) → (IsIn name (exchange_names t.exchanges) → ⊥) → Decides false (LeadsToQueue t key name queue)
no_fan t key name queue some absent = (λ h. absurd (cc), λ s. absurd (absent (in_from_there s some)))

-- the end of a step on to an exchange stands at the place of its name
onward_end : (t : Topology) (at : ℕ) (other : Text) (e : End) → IsWellFormed t → at < length t.exchanges → exchange_name t at ≡ other → EndsWithin (length t.exchanges) (length t.queues) e
    → destination_of t e ≡ destination.Exchange other → e ≡ Onward at
onward_end t at other (Onward i) w h q r p =
    let n : length (exchange_names t.exchanges) ≡ length t.exchanges = length-map t.exchanges (λ (z : Exchange). z.name) in
    let same : exchange_name t i ≡ other = cc in
    ap (λ (j : ℕ). Onward j) (apart_same (exchange_names t.exchanges) i at w.exchanges_distinct (omega (arith, n, r)) (omega (arith, n, h)) (same ∙ sym q))
onward_end t at other (Into i) w h q r p = absurd (cc)

into_end : (t : Topology) (at : ℕ) (queue : Text) (e : End) → IsWellFormed t → at < length t.queues → queue_name t at ≡ queue → EndsWithin (length t.exchanges) (length t.queues) e
    → destination_of t e ≡ destination.Queue queue → e ≡ Into at
into_end t at queue (Into i) w h q r p =
    let n : length (queue_names t.queues) ≡ length t.queues = length-map t.queues (λ (z : DeclaredQueue). z.name) in
    let same : queue_name t i ≡ queue = cc in
    ap (λ (j : ℕ). Into j) (apart_same (queue_names t.queues) i at w.queues_distinct (omega (arith, n, r)) (omega (arith, n, h)) (same ∙ sym q))
into_end t at queue (Onward i) w h q r p = absurd (cc)

pub steps_on : (t : Topology) (key name other : Text) (at : ℕ) (ends : List End) → IsWellFormed t → AreSteps t key name ends → at < length t.exchanges → exchange_name t at ≡ other
    → Decides (list_any (λ (e : End). is_onward at e) ends) (LeadsOn t key name other)
steps_on t key name other at ends w a h q = (
  λ yes'. subst (λ (z : Text). LeadsOn t key name z) q (a.only (Onward at) ((any_end (λ (e : End). is_onward at e) (Onward at) (onward_same at) (same_onward at) ends).0 yes')),
  λ s. (
      let m = a.all (destination.Exchange other) s in
      let e : m.0 ≡ Onward at = onward_end t at other m.0 w h q (a.within m.0 m.1) m.2 in
      (any_end (λ (e' : End). is_onward at e') (Onward at) (onward_same at) (same_onward at) ends).1 (subst (λ (z : End). IsIn z ends) e m.1)),
)

pub steps_in : (t : Topology) (key name queue : Text) (at : ℕ) (ends : List End) → IsWellFormed t → AreSteps t key name ends → at < length t.queues → queue_name t at ≡ queue
    → Decides (list_any (λ (e : End). is_into at e) ends) (LeadsToQueue t key name queue)
steps_in t key name queue at ends w a h q = (
  λ yes'. subst (λ (z : Text). LeadsToQueue t key name z) q (a.only (Into at) ((any_end (λ (e : End). is_into at e) (Into at) (into_same at) (same_into at) ends).0 yes')),
  λ s. (
      let m = a.all (destination.Queue queue) s in
      let e : m.0 ≡ Into at = into_end t at queue m.0 w h q (a.within m.0 m.1) m.2 in
      (any_end (λ (e' : End). is_into at e') (Into at) (into_same at) (same_into at) ends).1 (subst (λ (z : End). IsIn z ends) e m.1)),
)

-- ---- from the default exchange

-- into a queue that is there, the key names it
pub by_name : (t : Topology) (key name queue : Text) (at : ℕ) → IsWellFormed t → name ≡ [] → at < length t.queues → queue_name t at ≡ queue
    → Decides (bytes_eq queue key) (LeadsToQueue t key name queue)
by_name t key name queue at w z h q = (
  λ yes'. (
      let m = one_at (λ (y : DeclaredQueue). y.name) t.queues at h in
      let e : queue ≡ key = (bytes_eq-Decides queue key).0 yes' in
      subst (λ (n : Text). LeadsToQueue t key n queue) (sym z) (default m.0 m.1.is_one (m.1.named ∙ q) e)),
  λ s. (bytes_eq-Decides queue key).1 (named_by_key w s refl z),
)
  where
    no_name : (t : Topology) (name : Text) (x : Exchange) → IsWellFormed t → Contains t.exchanges x → x.name ≡ name → name ≡ [] → ⊥
    no_name t name x w c e z = w.none_is_default (subst (λ (n : Text). IsIn n (exchange_names t.exchanges)) (e ∙ z) (in_map (λ (y : Exchange). y.name) t.exchanges x (in_contains t.exchanges x c)))

    named_by_key : {t : Topology} {key name queue : Text} {to : Destination} → IsWellFormed t → Edge t (of_key key) name to → to ≡ destination.Queue queue → name ≡ [] → queue ≡ key
    named_by_key {t} w (bound {name} x b c e s p) q z = absurd (no_name t name x w c e z)
    named_by_key {t} w (alternate {name} x c e o s) q z = absurd (no_name t name x w c e z)
    named_by_key {t} {key} {name} {queue} w (default {queue = other} d c e n) q z =
        let same : queue ≡ other = cc in
        same ∙ n

pub nothing : (xs : Text) (b : Bool) → b ≡ eqb (length xs) 0 → b ≡ true → xs ≡ []
nothing [] b e f = refl
nothing (x ∷ xs) b e f = let h : length (x ∷ xs) ≡ 0 = eqb-true (length (x ∷ xs)) 0 (sym e ∙ f) in absurd (omega (arith, h))
