use Rattle.server.proofs.Passing.{ArePassed}
use Rattle.server.proofs.parts.has_bytes_left.Given as goal

abbrev pub invariant-parts : goal.invariant-parts
invariant-parts g l =
    let left = g.R.Read.remaining in
    ArePassed (left l.fn.reader) (left l.reader) l.bytes l.rest
