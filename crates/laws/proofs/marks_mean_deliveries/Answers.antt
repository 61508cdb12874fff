use Rattle.laws.proofs.Fresh.{step_fresh}
use Rattle.laws.proofs.Marked.{step_marks}
use Rattle.laws.proofs.marks_mean_deliveries.Goals as goal

pub returns : goal.returns
returns c = record { fresh = step_fresh; marked = step_marks }
