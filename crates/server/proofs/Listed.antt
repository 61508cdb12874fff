-- Which exchanges are there.
use Rattle.server.proofs.Names.{◌≡◌, List, [], ◌∷◌, Bool, true, false, refl, sym, inl, inr, Decides, list_any, Text, IsIn, exchange_names}
use Rattle.std.specs.Prelude.{◌||◌}
use Rattle.std.specs.Str.{bytes_eq}
use Rattle.std.proofs.lemmas.Slice.Eq.{bytes_eq-Decides}
use Rattle.model.specs.declared.topologies.Exchange.{Exchange}

any_at : (x y : Text) (ys : List Text) (v w : Bool) → (v ≡ true → y ≡ x) → (x ≡ y → v ≡ true) → ((w ≡ true → IsIn x ys) × (IsIn x ys → w ≡ true))
    → ((v || w) ≡ true → IsIn x (y ∷ ys)) × (IsIn x (y ∷ ys) → (v || w) ≡ true)
any_at x y ys true w d e ih = (λ h. inl (sym (d refl)), λ h. refl)
any_at x y ys false w d e ih = (λ h. inr (ih.0 h), λ h. (elim h [ inl q ↦ absurd (let z : false ≡ true = e q in cc) | inr r ↦ ih.1 r ]))

-- some exchange has this name
pub any_named : (name : Text) (xs : List Exchange) → Decides (list_any (λ (x : Exchange). bytes_eq x.name name) xs) (IsIn name (exchange_names xs))
any_named name [] = (λ h. absurd (cc), λ h. absurd h)
any_named name (x ∷ xs) =
    any_at name x.name (exchange_names xs) (bytes_eq x.name name) (list_any (λ (y : Exchange). bytes_eq y.name name) xs)
    (bytes_eq-Decides x.name name).0 (λ q. (bytes_eq-Decides x.name name).1 (sym q)) (any_named name xs)
