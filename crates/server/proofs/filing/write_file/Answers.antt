use Rattle.server.proofs.Names.{refl}
use Rattle.server.proofs.Kept.{left_of_kept}
use Rattle.server.proofs.filing.write_file.Goals as goal

pub returns-in-Err : goal.returns-in-Err
returns-in-Err g c = λ cs d. (c.in-Err.ensures cs d, left_of_kept _ _ _ _ (λ name. refl))
