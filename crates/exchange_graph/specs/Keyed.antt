-- The destinations of bindings by binding key (own).
use Rattle.std.specs.Prelude.{◌≡◌, List, [], ◌∷◌, ◌++◌, length, if◌then◌else◌}
use Rattle.std.specs.Str.{bytes_eq}
use Rattle.model.specs.Words.{Text}
use Rattle.exchange_graph.specs.declared.ends.End.{End}
use Rattle.exchange_graph.specs.declared.ends.Branch.{Branch}
use Rattle.exchange_graph.specs.declared.ends.KeyedEnds.{KeyedEnds}
use Rattle.exchange_graph.specs.Fans.{ends_by_key}

-- the list in `lists` at the index of the first key that equals `key`, or an empty list if none does
abbrev pub ends_beside : Text → List Text → List (List End) → List End
ends_beside key [] lists = []
ends_beside key (k ∷ ks) [] = []
ends_beside key (k ∷ ks) (es ∷ lists) = if bytes_eq key k then es else ends_beside key ks lists

-- the destinations that are kept under this key
abbrev pub ends_under : Text → KeyedEnds → List End
ends_under key keyed = ends_beside key keyed.keys keyed.lists.items

-- there is one list for each key
abbrev pub IsEven : KeyedEnds → Type 0
IsEven keyed = length keyed.keys ≡ length keyed.lists.items

-- `keyed` has, under each key, the destinations of the bindings in `ways` with this binding key.
pub record AreKeyed (ways : List Branch) (keyed : KeyedEnds) : Type 0 where
  pub even : IsEven keyed
  pub reported : (key : Text) → ends_under key keyed ≡ ends_by_key key ways

-- `end` was appended under `key`; the other lists are as before.
pub record PutsUnder (key : Text) (end : End) (old new : KeyedEnds) : Type 0 where
  pub even : IsEven new
  pub reported : (other : Text) → ends_under other new ≡ ends_under other old ++ (if bytes_eq key other then end ∷ [] else [])
