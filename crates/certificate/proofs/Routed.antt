-- A queue is routed to exactly where its place is among the targets.
use Rattle.certificate.proofs.Names.{◌≡◌, ℕ, ◌<◌, List, [], ◌∷◌, Bool, true, false, refl, sym, ◌∙◌, subst, length, eqb, eq-eqb, get_or, inl, inr, arith, ◌==◌, Decides, list_any, eqb-true, length-map, Text, Topology, IsIn, IsThere, IsWellFormed, queue_names}
use Rattle.std.specs.Prelude.{◌||◌}
use Rattle.model.specs.Routing.{Picks, none, take, pass, Routes, Reading, Edge, bound, alternate, default}
use Rattle.model.specs.declared.topologies.DeclaredQueue.{DeclaredQueue}
use Rattle.model.specs.declared.topologies.Destination.{Destination}
use Rattle.model.specs.declared.topologies.Destination.TheVariants as destination
use Rattle.exchange_graph.specs.Targets.{AreTargets}
use Rattle.exchange_graph.specs.Marks.{queue_name}
use Rattle.topology_drafts.proofs.Members.{in_get, get_in, in_map, map_in, in_contains}
use Rattle.exchange_graph.proofs.Naming.{apart_same}

picked_holds : {P : Text → Type 0} {xs ys : List Text} (y : Text) → Picks P xs ys → IsIn y ys → P y
picked_holds y none h = absurd h
picked_holds {P} y (take p r) h = elim h [ inl e ↦ subst P (sym e) p | inr i ↦ picked_holds y r i ]
picked_holds y (pass q r) h = picked_holds y r h

picked_all : {P : Text → Type 0} {xs ys : List Text} (x : Text) → Picks P xs ys → IsIn x xs → P x → IsIn x ys
picked_all x none h p = absurd h
picked_all x (take q r) h p = elim h [ inl e ↦ inl e | inr i ↦ inr (picked_all x r i p) ]
picked_all {P} x (pass q r) h p = elim h [ inl e ↦ absurd (q (subst P e p)) | inr i ↦ picked_all x r i p ]

pub target_routed : (t : Topology) (x key : Text) (targets : List ℕ) (at : ℕ) (q : Text) → AreTargets t x key targets → queue_name t at ≡ q → IsIn at targets → Routes t x key q
target_routed t x key targets at q a e h =
    subst (λ (n : Text). Routes t x key n) e (picked_holds (queue_name t at) a.picked (in_map (λ (i : ℕ). get_or (queue_names t.queues) i []) targets at h))

pub routed_target : (t : Topology) (x key : Text) (targets : List ℕ) (at : ℕ) (q : Text) → IsWellFormed t → AreTargets t x key targets → at < length t.queues → queue_name t at ≡ q → Routes t x key q → IsIn at targets
routed_target t x key targets at q w a h e s =
    let n : length (queue_names t.queues) ≡ length t.queues = length-map t.queues (λ (z : DeclaredQueue). z.name) in
    let there : IsIn q (queue_names t.queues) = subst (λ (z : Text). IsIn z (queue_names t.queues)) e (in_get (queue_names t.queues) at [] (omega (arith, n, h))) in
    let m = map_in (λ (i : ℕ). get_or (queue_names t.queues) i []) targets q (picked_all q a.picked there s) in
    let k = get_in targets m.0 m.1 in
    let b : m.0 < length t.queues = subst (λ (i : ℕ). i < length t.queues) (k.is 0) (a.within k.at 0 k.within) in
    let same : m.0 ≡ at = apart_same (queue_names t.queues) m.0 at w.queues_distinct (omega (arith, n, b)) (omega (arith, n, h)) (m.2 ∙ sym e) in
    subst (λ (i : ℕ). IsIn i targets) same m.1

-- what is routed to is there
edge_there : {t : Topology} {r : Reading} {name : Text} {to : Destination} (q : Text) → IsWellFormed t → Edge t r name to → to ≡ destination.Queue q → IsIn q (queue_names t.queues)
edge_there {t} q w (bound x b c e s p) z = subst (λ (y : Destination). IsThere t y) (s.leads ∙ z) (w.ends b s.is_binding)
edge_there q w (alternate x c e o s) z = absurd (cc)
edge_there {t} q w (default {queue = queue} d c e n) z =
    let same : queue ≡ q = cc in
    subst (λ (y : Text). IsIn y (queue_names t.queues)) (e ∙ same) (in_map (λ (y : DeclaredQueue). y.name) t.queues d (in_contains t.queues d c))

pub routed_there : (t : Topology) (x key q : Text) → IsWellFormed t → Routes t x key q → IsIn q (queue_names t.queues)
routed_there t x key q w s = edge_there q w s.2 refl

-- ---- lists

pub any_at : {A : Type 0} (x y : A) (ys : List A) (v w : Bool) → (v ≡ true → y ≡ x) → (x ≡ y → v ≡ true) → ((w ≡ true → IsIn x ys) × (IsIn x ys → w ≡ true))
    → ((v || w) ≡ true → IsIn x (y ∷ ys)) × (IsIn x (y ∷ ys) → (v || w) ≡ true)
any_at x y ys true w d e ih = (λ h. inl (sym (d refl)), λ h. refl)
any_at x y ys false w d e ih = (λ h. inr (ih.0 h), λ h. (elim h [ inl q ↦ absurd (let z : false ≡ true = e q in cc) | inr r ↦ ih.1 r ]))

-- some place is this one
pub any_index : (place : ℕ) (ps : List ℕ) → Decides (list_any (λ (p : ℕ). p == place) ps) (IsIn place ps)
any_index place [] = (λ h. absurd (cc), λ h. absurd h)
any_index place (p ∷ ps) =
    any_at place p ps (eqb p place) (list_any (λ (q : ℕ). q == place) ps) (λ q. eqb-true p place q) (λ q. eq-eqb p place (sym q)) (any_index place ps)
