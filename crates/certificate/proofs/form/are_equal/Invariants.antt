use Rattle.certificate.proofs.Names.{◌≡◌, drop, same_texts}
use Rattle.certificate.proofs.form.are_equal.Given as goal

abbrev pub invariant-loop-at : goal.invariant-loop-at
invariant-loop-at l = same_texts (drop l.at l.texts) (drop l.at l.others) ≡ same_texts l.texts l.others
