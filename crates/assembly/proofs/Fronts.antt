-- What is read stands at the front.
use Rattle.assembly.proofs.Imports.{◌≡◌, ℕ, ◌++◌, length, Some, ap, arith, length-append, Stream, Yields, first, now, later, Ends, broken, faulty, beyond, GoesOn, stays, goes, Command, HasFront}
use Rattle.assembly.specs.Front as front

-- of a stream that goes on to one with a front the first frame is whole
pub goes_front : {a b : Stream} → GoesOn a b → HasFront b → HasFront a
goes_front stays h = h
goes_front (goes t g) h = front.whole t.begun t.front

-- a fault stands at the front, or behind whole frames
pub ends_front : {s : Stream} {code : ℕ} → Ends s (Some code) → HasFront s
ends_front (broken begun b) = front.broken begun b
ends_front (faulty t) = front.whole t.begun t.front
ends_front (beyond t e) = front.whole t.begun t.front

-- and so does a command
pub yields_front : {s next : Stream} {c : Command} → Yields s c next → HasFront s
yields_front (first {s = s} {bytes = bytes} t) =
    let l : length s.unread ≡ length (bytes ++ t.rest) = ap length t.front in
    let n = t.size in
    front.eight t.awaited (omega (arith, l, n, length-append bytes t.rest))
yields_front (now t) = front.whole t.begun t.front
yields_front (later t y) = front.whole t.begun t.front
