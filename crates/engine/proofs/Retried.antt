-- What holds of a call that was made again, since an allocation failed.
use Rattle.engine.proofs.Names.{◌≡◌, ◌≤◌, ◌+◌, length, Option, Some, None, ap, arith, Stream, GoesOn, stays, goes, Command, YieldsNext, goes_front}
use Rattle.std.specs.Prelude.{Result, Ok, Err}
use Rattle.assembly.specs.declared.faults.Fault.{Fault}
use Rattle.assembly.specs.declared.faults.Fault.TheVariants.{Broken, Memory}
use Rattle.assembly.proofs.Onwards.{yields_then, ends_then, shorter}

goes_on : {a b c : Stream} → GoesOn a b → GoesOn b c → GoesOn a c
goes_on stays h = h
goes_on (goes t g) h = goes t (goes_on g h)

goes_shorter : {a b : Stream} → GoesOn a b → length b.unread ≤ length a.unread
goes_shorter stays = omega arith
goes_shorter (goes {s = s} {mid = mid} t g) =
    let left : length mid.unread ≡ length t.rest = ap (λ (x : Stream). length x.unread) t.left in
    let front : length t.rest + 8 ≤ length s.unread = shorter s.max s.unread t.rest t.frame t.front in
    let rest = goes_shorter g in
    omega (arith, left, front, rest)

-- what a stream says after it went on is what it says next
pub yields_after : (s mid new : Stream) (r : Result (Option Command) Fault) → GoesOn s mid → YieldsNext mid r new → YieldsNext s r new
yields_after s mid new (Ok (Some c)) g h = record { next = yields_then g h.next; command = h.command; shorter = omega (arith, goes_shorter g, h.shorter) }
yields_after s mid new (Ok None) g h = record { same = goes_on g h.same; ends = ends_then g h.ends; still = h.still }
yields_after s mid new (Err (Broken code)) g h = record { same = goes_on g h.same; ends = ends_then g h.ends; still = h.still }
yields_after s mid new (Err Memory) g h = (goes_on g h.0, goes_front g h.1)
