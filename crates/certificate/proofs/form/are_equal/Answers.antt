use Rattle.certificate.proofs.Placing.{unequal}
use Rattle.certificate.proofs.form.are_equal.Goals as goal

pub returns-then-texts-others : goal.returns-then-texts-others
returns-then-texts-others c = unequal c.args.texts.now c.args.others.now c.if-texts-others.true
