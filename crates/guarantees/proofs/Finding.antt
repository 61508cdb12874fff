-- What is there of a topology.
use Rattle.guarantees.proofs.Names.{◌≡◌, List, [], ◌∷◌, Bool, true, false, cond, Bor, Option, Some, None, inl, inr, refl, sym, ap, ◌∙◌, subst, ◌⊎◌, Decides, find, is_some, option_copied, bytes_eq-Decides, bytes_eq, Text, Topology, IsIn, exchange_names, queue_names, Guarantee, IsExchangeOrDefault, NamesAreThere}
use Rattle.std.proofs.Common.{◌&&◌}
use Rattle.model.specs.declared.topologies.Exchange.{Exchange}

find_at : (x : Exchange) (name : Text) (v : Bool) (found : Option Exchange) (P : Type 0) → Decides v (x.name ≡ name) → Decides (is_some found) P → Decides (is_some (cond v (Some x) found)) ((name ≡ x.name) ⊎ P)
find_at x name true found P d e = (λ h. inl (sym (d.0 refl)), λ h. refl)
find_at x name false found P d e = (λ h. inr (e.0 h), λ h. (elim h [ inl q ↦ (let z = d.1 (sym q) in absurd (cc)) | inr p ↦ e.1 p ]))

finds : (xs : List Exchange) (name : Text) → Decides (is_some (find (λ (x : Exchange). bytes_eq x.name name) xs)) (IsIn name (exchange_names xs))
finds [] name = (λ h. absurd (cc), λ h. absurd h)
finds (x ∷ xs) name = find_at x name (bytes_eq x.name name) (find (λ (y : Exchange). bytes_eq y.name name) xs) (IsIn name (exchange_names xs)) (bytes_eq-Decides x.name name) (finds xs name)

some_copied : {A : Type 0} (o : Option (Bor A)) → is_some o ≡ is_some (option_copied o)
some_copied None = refl
some_copied (Some x) = refl

pub found_tells : (o : Option (Bor Exchange)) (b : Bool) (xs : List Exchange) (name : Text) → b ≡ is_some o → option_copied o ≡ find (λ (x : Exchange). bytes_eq x.name name) xs
    → Decides b (IsIn name (exchange_names xs))
found_tells o b xs name e f = subst (λ (v : Bool). Decides v (IsIn name (exchange_names xs))) (sym (e ∙ some_copied o ∙ ap is_some f)) (finds xs name)

pub both_there : (t : Topology) (g : Guarantee) (a b : Bool) → Decides a (IsExchangeOrDefault t g.exchange) → Decides b (IsIn g.queue (queue_names t.queues)) → Decides (a && b) (NamesAreThere t g)
both_there t g true b d e = (λ h. record { exchange = d.0 refl; queue = e.0 h }, λ h. e.1 h.queue)
both_there t g false b d e = (λ h. absurd (cc), λ h. (let z = d.1 h.exchange in absurd (cc)))
