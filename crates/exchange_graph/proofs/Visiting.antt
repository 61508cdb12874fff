-- The default exchange leads on to none, and no exchange of the file leads on to it.
use Rattle.exchange_graph.proofs.Names.{◌≡◌, List, [], ◌∷◌, refl, subst, inl, inr, Text, Topology, IsIn, IsWellFormed, exchange_names, Leads, Picks, here, on, none, pass, of_key, AreVisited}
use Rattle.model.specs.Routing.{take}
use Rattle.exchange_graph.proofs.Edging.{end_there}
use Rattle.exchange_graph.proofs.Starting.{default_leads}

none_picked : (P : Text → Type 0) (xs : List Text) → ((x : Text) → IsIn x xs → P x → ⊥) → Picks P xs []
none_picked P [] shut = none
none_picked P (x ∷ xs) shut = pass (shut x (inl refl)) (none_picked P xs (λ y h. shut y (inr h)))

pub default_visited : (t : Topology) (key : Text) → IsWellFormed t → AreVisited t [] key ([] ∷ [])
default_visited t key w =
    take here (none_picked (Leads t (of_key key) []) (exchange_names t.exchanges)
    (λ x h l. w.none_is_default (subst (λ (n : Text). IsIn n (exchange_names t.exchanges)) (default_leads w l refl) h)))

never_default : {t : Topology} {key x y : Text} → IsWellFormed t → Leads t (of_key key) x y → (x ≡ [] → ⊥) → y ≡ [] → ⊥
never_default w here some z = some z
never_default {t} w (on {y = m} s l) some z =
    never_default w l (λ e. w.none_is_default (subst (λ (n : Text). IsIn n (exchange_names t.exchanges)) e (end_there w s))) z

pub others_visited : (t : Topology) (exchange key : Text) (names : List Text) → IsWellFormed t → (exchange ≡ [] → ⊥) → Picks (Leads t (of_key key) exchange) (exchange_names t.exchanges) names → AreVisited t exchange key names
others_visited t exchange key names w some p = pass (λ l. never_default w l some refl) p
