use Rattle.session.proofs.Names.{◌≡◌, ◌∙◌, ap, sym, ℕ, arith, opening_move}
use Rattle.session.proofs.Table.{awaited_is}
use Rattle.session.proofs.answers.answer_to.Goals as goal

pub returns-in_default-method : goal.returns-in_default-method
returns-in_default-method c =
    let zero : c.args.channel ≡ 0 = omega (arith, c.if-channel-ne0.false) in
    record {
      is = λ n s.
          c.awaited.ensures.is n s
          ∙ awaited_is n c.args.is_user s c.args.phase c.args.method.now c.in_default-method.not-ConnectionClose
          ∙ ap (λ (h : ℕ). opening_move n c.args.is_user s c.args.phase h c.args.method.now) (sym zero);
      fits = c.awaited.ensures.fits;
    }
