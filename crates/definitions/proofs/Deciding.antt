-- What is decided of the entries of a file.
use Rattle.definitions.proofs.Imports.{◌≡◌, ◌<◌, ℕ, length, List, Bool, true, false, ◌&&◌, refl, subst, All, Decides, MatchBool, All-from_all_within, Text, AreDistinct, File, HasPermissions, IsOfUser, IsPermitted, PermitsAll, permission_names, user_names}
use Rattle.std.specs.List.{AllWithin, HoldsAt}
use Rattle.std.proofs.lemmas.Bool.{MatchBool-at_true}
use Rattle.std.proofs.lemmas.Iterator.Search.{true_from_All}

decides_both : (a b : Bool) (P Q R : Type 0) → (P → Q → R) → (R → P) → (R → Q) → Decides a P → Decides b Q → Decides (a && b) R
decides_both true b P Q R make f g d e = (λ h. make (d.0 refl) (e.0 h), λ r. e.1 (g r))
decides_both false b P Q R make f g d e = (λ h. absurd (cc), λ r. (let z = d.1 (f r) in absurd (cc)))

pub permissions_known : (f : File) (us ps : List Text) (a p b c : Bool) → us ≡ user_names f → ps ≡ permission_names f → Decides a (All PermitsAll f.permissions)
    → Decides p (AreDistinct ps) → Decides b (All (IsPermitted ps) f.users) → Decides c (All (IsOfUser us) f.permissions) → Decides (a && p && b && c) (HasPermissions f)
permissions_known f us ps a p b c u q da dp db dc =
    let dp' : Decides p (AreDistinct (permission_names f)) = subst (λ (ns : List Text). Decides p (AreDistinct ns)) q dp in
    let db' : Decides b (All (IsPermitted (permission_names f)) f.users) = subst (λ (ns : List Text). Decides b (All (IsPermitted ns) f.users)) q db in
    let dc' : Decides c (All (IsOfUser (user_names f)) f.permissions) = subst (λ (ns : List Text). Decides c (All (IsOfUser ns) f.permissions)) u dc in
    let first : Decides (a && p) (All PermitsAll f.permissions × AreDistinct (permission_names f)) =
    decides_both a p _ _ (All PermitsAll f.permissions × AreDistinct (permission_names f)) (λ x y. (x, y)) (λ r. r.0) (λ r. r.1) da dp' in
    let second : Decides (a && p && b) ((All PermitsAll f.permissions × AreDistinct (permission_names f)) × All (IsPermitted (permission_names f)) f.users) =
    decides_both (a && p) b _ _ ((All PermitsAll f.permissions × AreDistinct (permission_names f)) × All (IsPermitted (permission_names f)) f.users) (λ x y. (x, y)) (λ r. r.0) (λ r. r.1) first db' in
    decides_both (a && p && b) c _ _ (HasPermissions f)
    (λ x y. record { whole = x.0.0; distinct = x.0.1; each = x.1; known = y })
    (λ r. ((r.whole, r.distinct), r.each))
    (λ r. r.known)
    second dc'

-- what `all` answered of a test that decides P
pub decides_all : {X : Type 0} (P : X → Type 0) (r : Bool) (xs : List X) → MatchBool r (AllWithin P xs 0 (length xs)) ((k : ℕ) × (k < length xs) × HoldsAt (λ x. P x → ⊥) xs k)
    → Decides r (All P xs)
decides_all P r xs m = (λ e. All-from_all_within P xs (MatchBool-at_true _ _ e m), λ all. true_from_All P (λ x. P x → ⊥) r xs (λ x p not. not p) m all)
