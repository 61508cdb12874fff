-- Storages are allocated until enough are there, and each list of spare storages has those of one size.
use Rattle.std.proofs.Common.{◌≡◌, ◌≤◌, ℕ, List, [], ◌∷◌, ◌++◌}
use Rattle.std.specs.List.{AllByRecursion}
use Rattle.outputs.specs.Storages.{HasBytes, Storage, reserve_of, storage_of}
use Rattle.outputs.specs.declared.room.Room.{Room}

-- The storages after filling up, and the capacity for more, by those before.
pub record Filling (kind : Room) (was was_room : ℕ) (had : List Storage) (is room : ℕ) (has : List Storage) : Type 0 where
  pub least : was ≤ is
  pub few : was ≤ reserve_of kind → is ≤ reserve_of kind
  pub many : reserve_of kind ≤ was → is ≡ was
  pub room_same : room ≡ was_room
  pub sizes : AllByRecursion (HasBytes (storage_of kind)) had → AllByRecursion (HasBytes (storage_of kind)) has

-- ---- each storage of a list has so many bytes

pub sizes_more : (n : ℕ) (ss : List Storage) (s : Storage) → AllByRecursion (HasBytes n) ss → n ≤ s.bytes → AllByRecursion (HasBytes n) (ss ++ s ∷ [])
sizes_more n [] s all one = (one, tt)
sizes_more n (x ∷ ss) s all one = (all.0, sizes_more n ss s all.1 one)
