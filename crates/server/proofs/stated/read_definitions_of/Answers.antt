use Rattle.server.proofs.Names.{Text, IsFreeOf}
use Rattle.definitions.specs.Causes.{IsClear}
use Rattle.definitions.specs.File.{file_at}
use Rattle.server.proofs.Causing.{has_bytes, refuses, why_of_cause}
use Rattle.server.proofs.stated.read_definitions_of.Goals as goal

pub returns-in_err-read_definitions-clause-states : goal.returns-in_err-read_definitions-clause-states
returns-in_err-read_definitions-clause-states g c =
    let known = g.F.Files.holds c.args.files.now c.args.file.now in
    let has = has_bytes known _ _ c.as_slice.ensures.value c.in_ok-text.ensures.read.whole in
    refuses _ _ _ _ c.from_residual-in_err-read_definitions.ensures.1 (why_of_cause (λ (t : Text). IsFreeOf file_at IsClear t) known _ _ has c.in_err-read_definitions.ensures)
