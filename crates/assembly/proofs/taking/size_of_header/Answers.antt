use Rattle.assembly.proofs.Imports.{refl, header_seen}
use Rattle.assembly.proofs.Codes.{map_fault}
use Rattle.assembly.proofs.taking.size_of_header.Goals as goal

pub returns-in-Ok : goal.returns-in-Ok
returns-in-Ok c = (header_seen c.in-Ok.header, c.in-Ok.ensures.read, refl)

pub returns-in-Err : goal.returns-in-Err
returns-in-Err c = map_fault _ _ c.of_header.result (λ code s. s) (c.of_header.ensures _ c.in-Err.ensures.read)
