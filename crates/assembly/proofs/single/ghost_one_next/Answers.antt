use Rattle.assembly.proofs.Once.{one_command, one_end, one_of_them}
use Rattle.assembly.proofs.single.ghost_one_next.Goals as goal

pub returns : goal.returns
returns c = record { one_command = one_command; one_end = one_end; one_of_them = one_of_them }
