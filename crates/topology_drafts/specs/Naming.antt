-- Lists of names.
use Rattle.std.specs.Prelude.{◌≡◌, ◌++◌, List, [], ◌∷◌, Bool, true, false, Option, IfSome, Decides}
use Rattle.model.specs.Words.{Text}
use Rattle.model.specs.Topology.{AreDistinct, IsIn}

-- `known` are exactly `names`, in order, and no name occurs twice
pub record AreNames (known names : List Text) : Type 0 where
  pub same : known ≡ names
  pub distinct : AreDistinct names

-- the name was appended, if it was new (`added`); otherwise it was in the list already
pub record EntersName (name : Text) (old new : List Text) (added : Bool) : Type 0 where
  pub is_new : added ≡ true → IsIn name old → ⊥
  pub behind : added ≡ true → new ≡ old ++ name ∷ []
  pub was_there : added ≡ false → IsIn name old

-- `index` has exactly `names`, if there is an index, and `distinct` says whether these are distinct
pub record IsIndexed (index : Option (List Text)) (distinct : Bool) (names : List Text) : Type 0 where
  pub same : IfSome index (λ known. known ≡ names)
  pub decided : Decides distinct (AreDistinct names)
