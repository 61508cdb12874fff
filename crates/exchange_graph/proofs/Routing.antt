-- Whether clients may publish to an exchange, by its name, and slots without a route.
use Rattle.exchange_graph.proofs.Names.{◌≡◌, ◌∙◌, ℕ, zero, suc, ◌<◌, List, [], ◌∷◌, false, refl, sym, ap, subst, length, ◌==◌, find, get_or, set, replicate, arith, bytes_eq, length-replicate, Text, Topology, Exchange}
use Rattle.std.proofs.Common.{Option, None}
use Rattle.std.proofs.lemmas.List.Elements.{All-set}
use Rattle.std.proofs.lemmas.List.Folds.{sum_by-replicate}
use Rattle.std.specs.Prelude.{All, sum_by}
use Rattle.std.specs.declared.sync.Arc.{Arc}
use Rattle.exchange_graph.specs.declared.routes.Route.{Route}
use Rattle.exchange_graph.specs.Routers.{access_at, access_to, IsRight, slot_bytes}

pub access_named : (t : Topology) (name : Text) → (length name == 0) ≡ false → access_at (find (λ (x : Exchange). bytes_eq x.name name) t.exchanges) ≡ access_to t name
access_named t [] h = cc
access_named t (b ∷ bs) h = refl

none_right : {Z : Type 0} (t : Topology) (n k : ℕ) (d : Option (Arc Route Z)) → k < n → IsRight t (get_or (replicate n None) k d)
none_right t zero k d h = absurd (omega (arith, h))
none_right t (suc n) zero d h = tt
none_right t (suc n) (suc k) d h = none_right t n k d (omega (arith, h))

pub empty_length : {Z : Type 0} (n : ℕ) (slots : List (Option (Arc Route Z))) → slots ≡ replicate n None → length slots ≡ n
empty_length {Z} n slots e = ap length e ∙ length-replicate _ _

-- an empty slot is right
pub empty_right : {Z : Type 0} (t : Topology) (n : ℕ) (slots : List (Option (Arc Route Z))) → slots ≡ replicate n None → All (IsRight t) slots
empty_right {Z} t n slots e =
    let long : length slots ≡ n = empty_length n slots e in
    λ k d h. subst (λ (xs : List (Option (Arc Route Z))). IsRight t (get_or xs k d)) (sym e) (none_right t n k d (omega (arith, h, long)))

-- and has no bytes
pub empty_bytes : {Z : Type 0} (n : ℕ) (slots : List (Option (Arc Route Z))) → slots ≡ replicate n None → sum_by slot_bytes slots ≡ 0
empty_bytes {Z} n slots e = ap (sum_by slot_bytes) e ∙ sum_by-replicate slot_bytes n None ∙ omega arith

-- where one slot is emptied, each is right as before
pub emptied_right : {Z : Type 0} (t : Topology) (old new : List (Option (Arc Route Z))) (i : ℕ) → new ≡ set old i None → All (IsRight t) old → All (IsRight t) new
emptied_right {Z} t old new i e all = subst (λ (xs : List (Option (Arc Route Z))). All (IsRight t) xs) (sym e) (All-set (IsRight t) old i None tt all)
