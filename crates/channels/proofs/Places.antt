-- How many places a connection has for channels, once one of them is opened.
use Rattle.channels.proofs.Imports.{◌≡◌, ◌≤◌, ℕ, List, length, Some, sym, ◌∙◌, subst, same_Some, set_value, Running, running_in, HasPlacesBelow}
use Rattle.std.proofs.Common.{nat_eq}
use Rattle.channels.proofs.Putting.{found_here}

-- the connection that is found has its places
pub places_found : (es : List (ℕ × Running)) (c n : ℕ) (l : Running) → running_in es c ≡ Some l → length l.channels ≤ n → HasPlacesBelow es c n
places_found es c n l found few k there = subst (λ (r : Running). length r.channels ≤ n) (same_Some l k (sym found ∙ there)) few

-- one that is written has those of what was written
pub places_written : (es new : List (ℕ × Running)) (c n : ℕ) (old l : Running) → running_in es c ≡ Some old → new ≡ set_value (nat_eq c) es l → length l.channels ≤ n → HasPlacesBelow new c n
places_written es new c n old l found is few =
    subst (λ (xs : List (ℕ × Running)). HasPlacesBelow xs c n) (sym is) (places_found (set_value (nat_eq c) es l) c n l (found_here (nat_eq c) es l old found) few)
