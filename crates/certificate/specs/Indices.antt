-- The indices of the patterns that a certificate tracks, and the patterns (own).
use Rattle.std.specs.Prelude.{◌≡◌, ◌≤◌, ℕ, List, [], ◌∷◌, length, Bool, true, false, nat_lt, ◌&&◌, Option, Some, None}
use Rattle.std.specs.Global.{Vec}
use Rattle.std.specs.Str.{bytes_eq}
use Rattle.model.specs.Words.{Text}
use Rattle.model.specs.Tracking.{Tracked}
use Rattle.model.specs.Certificates.{Form, Whole, Sliced, Excepting, RiseFromZero, AreIndices, at_indices, AreChosen, IsZeroFirst}

-- at most 64 indices, which begin with 0 and increase strictly
pub record AreFewIndices (indices : List ℕ) : Type 0 where
  pub few : length indices ≤ 64
  pub rise : RiseFromZero indices

-- the indices of the form, if it has any, are at most 64, begin with 0 and increase strictly
abbrev pub HasFewIndices : Form → Type 0
HasFewIndices Whole = Unit {0}
HasFewIndices (Sliced indices) = AreFewIndices indices
HasFewIndices (Excepting excepts indices) = AreFewIndices indices

-- whether this form drops states
abbrev pub passes_over : Form → Bool
passes_over Whole = false
passes_over (Sliced indices) = true
passes_over (Excepting excepts indices) = true

-- the state is dropped: the form drops states, and the first number of this state is 0
abbrev pub IsPassedOver : Bool → List ℕ → Type 0
IsPassedOver true s = IsZeroFirst s
IsPassedOver false s = ⊥

-- `Some`: the patterns of `list` that the form chooses; `None`: an index of the form is past the end of `list`
abbrev pub Chooses : Form → List Tracked → Option (Vec Tracked) → Type 0
Chooses form list (Some ps) = AreChosen form list ps.items
Chooses form list None = (ps : List Tracked) → AreChosen form list ps → ⊥

-- ---- parts of choosing

-- `Some`: the patterns of `list` at `indices`; `None`: one of the indices is past the end of `list`
abbrev pub SlicesAt : List Tracked → List ℕ → Option (Vec Tracked) → Type 0
SlicesAt list indices (Some ps) = AreIndices list indices × (ps.items ≡ at_indices list indices)
SlicesAt list indices None = AreIndices list indices → ⊥

-- the number `m` is less than the first of the list, or the list is empty
abbrev pub is_less_first : ℕ → List ℕ → Bool
is_less_first m [] = true
is_less_first m (n ∷ ns) = nat_lt m n

-- each number is less than the next
abbrev pub rises : List ℕ → Bool
rises [] = true
rises (m ∷ ms) = is_less_first m ms && rises ms

-- the texts are the same, one by one
abbrev pub same_texts : List Text → List Text → Bool
same_texts [] [] = true
same_texts [] (b ∷ bs) = false
same_texts (a ∷ as') [] = false
same_texts (a ∷ as') (b ∷ bs) = bytes_eq a b && same_texts as' bs
