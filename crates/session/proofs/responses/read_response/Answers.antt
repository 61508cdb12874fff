use Rattle.session.proofs.Names.{◌≡◌, sym, ap, ◌∙◌, ◌∷◌, ◌==◌, length, arith, ℕ, eqb-true}
use Rattle.session.proofs.Cutting.{no_second_nul, no_user, nul_in_password, cut_some}
use Rattle.session.proofs.responses.read_response.Goals as goal

pub returns-in_default : goal.returns-in_default
returns-in_default c =
    let first : c.in_ok-first.first.now ≡ 0 = omega (arith, c.if-first-ne0.false) in
    no_second_nul c.args.response.now c.in_ok-first.rest.now (c.in_ok-first.ensures.cases.0 ∙ ap (λ (b : ℕ). b ∷ c.in_ok-first.rest.now) first) c.in_default.ensures

pub returns-then-is_empty : goal.returns-then-is_empty
returns-then-is_empty c =
    let first : c.in_ok-first.first.now ≡ 0 = omega (arith, c.if-first-ne0.false) in
    let empty : c.is_empty.result ≡ (length c.in-Some.user.now == 0) = c.is_empty.ensures in
    no_user c.args.response.now c.in_ok-first.rest.now c.in-Some.user.now c.in-Some.password.now
    (c.in_ok-first.ensures.cases.0 ∙ ap (λ (b : ℕ). b ∷ c.in_ok-first.rest.now) first) c.in-Some.ensures
    (eqb-true (length c.in-Some.user.now) 0 (sym empty ∙ c.if-is_empty.true))

pub returns-then-is_some : goal.returns-then-is_some
returns-then-is_some c =
    let first : c.in_ok-first.first.now ≡ 0 = omega (arith, c.if-first-ne0.false) in
    nul_in_password c.args.response.now c.in_ok-first.rest.now c.in-Some.user.now c.in-Some.password.now
    (c.in_ok-first.ensures.cases.0 ∙ ap (λ (b : ℕ). b ∷ c.in_ok-first.rest.now) first) c.in-Some.ensures
    (cut_some c.in-Some.password.now c.cut-2.result c.cut-2.ensures (sym c.is_some.ensures ∙ c.if-is_some.true))
