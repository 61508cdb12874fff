-- A method is as long as its ids and its arguments.
use Rattle.methods.proofs.Names.{ℕ, List, length, ap, arith}
use Rattle.methods.proofs.Rows.{are}
use Rattle.methods.proofs.writing.spelled_len.Goals as goal

pub returns-in_err-len : goal.returns-in_err-len
returns-in_err-len c = rw c.from_residual.ensures (λ fits. c.in_err-len.ensures.cases ((are c.arguments_of.result c.args.m.now c.arguments_of.ensures).back fits))

pub returns : goal.returns
returns c =
    let a = are c.arguments_of.result c.args.m.now c.arguments_of.ensures in
    let len = ap (λ (z : List ℕ). length z) a.bytes in
    let n = c.in_ok-len.ensures.cases.1 in
    (a.fits c.in_ok-len.ensures.cases.0, omega (arith, len, n))
