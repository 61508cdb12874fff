use Rattle.frame.proofs.Fronts.{shows, one_front}
use Rattle.frame.proofs.laws.ghost_one_frame.Goals as goal

pub returns : goal.returns
returns c = λ max bytes more rest f g below a b. one_front bytes more rest f g (shows max bytes f more below a) (shows max bytes g rest below b)
