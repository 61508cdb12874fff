use Rattle.session.proofs.Names.{◌≡◌, ◌∙◌, ap, arith, ℕ, List, length, codes}
use Rattle.session.proofs.Hashing.{other_length}
use Rattle.session.proofs.logins.fail_slowly.Goals as goal

-- it has 39 bytes
pub returns : goal.returns
returns c =
    let text : c.as_slice.result.now ≡ codes "longer than the hash of any password is" = c.as_slice.ensures in
    let long : length c.as_slice.result.now ≡ 39 = ap (λ (t : List ℕ). length t) text in
    c.has_hash.ensures ∙ other_length c.as_slice.result.now c.args.password.now (λ e. omega (arith, e, long))
