-- A header is as long as its parts.
use Rattle.headers.proofs.Names.{◌+◌, ℕ, length, ap, ◌∙◌, front_of, values}
use Rattle.headers.proofs.Laid.{front_fits, back_fits, both_fit, header_len}
use Rattle.headers.proofs.writing.fields_len.Goals as goal

pub returns-in_err-front : goal.returns-in_err-front
returns-in_err-front c = rw c.from_residual.ensures (λ fits. c.in_err-front.ensures.cases (front_fits c.args.fields.now fits))

pub returns-in_err-back : goal.returns-in_err-back
returns-in_err-back c = rw c.from_residual-in_err-back.ensures (λ fits. c.in_err-back.ensures.cases (back_fits c.args.fields.now fits))

pub returns : goal.returns
returns c =
    let front = c.in_ok-front.ensures.cases in
    let back = c.in_ok-back.ensures.cases in
    (both_fit c.args.fields.now front.0 back.0, λ size. ap (λ (n : ℕ). 14 + n + c.in_ok-back.back) front.1 ∙ ap (λ (n : ℕ). 14 + length (values (front_of c.args.fields.now)) + n) back.1 ∙ header_len size c.args.fields.now)
