-- A fault that a stream keeps stands in it.
use Rattle.assembly.proofs.Imports.{◌≡◌, ℕ, List, Option, Some, None, subst, Stream, Ends, heard, stays, Stops, IsBrokenBy}
use Rattle.laws.proofs.Streams.{fault_stays}

-- whatever comes behind it
pub broken_more : (fault : Option ℕ) (s : Stream) (more : List ℕ) → IsBrokenBy fault s → IsBrokenBy fault (heard s more)
broken_more None s more b = tt
broken_more (Some code) s more b = fault_stays s code more b

-- and it is the answer
pub broken_stops : (fault : Option ℕ) (s : Stream) (code : ℕ) → fault ≡ Some code → IsBrokenBy fault s → Stops s (Some code) s
broken_stops fault s code is b =
    let ends : Ends s (Some code) = subst (λ (o : Option ℕ). IsBrokenBy o s) is b in
    record { same = stays; ends = ends; still = ends }
