use Rattle.laws.proofs.Never.{run_letters_once}
use Rattle.laws.proofs.a_rejection_makes_one_letter.Goals as goal

pub returns : goal.returns
returns c = run_letters_once
