use Rattle.certificate.proofs.Placing.{same_tells}
use Rattle.certificate.proofs.form.are_same.Goals as goal

pub returns : goal.returns
returns c = rw c.are_equal.ensures (same_tells c.args.texts.now c.args.others.now)
