use Rattle.server.proofs.Causing.{has_bytes, refuses, why_uncertified}
use Rattle.server.proofs.stated.read_certificates_of.Goals as goal

pub returns-in_err-read-clause-states : goal.returns-in_err-read-clause-states
returns-in_err-read-clause-states g c =
    let known = g.F.Files.holds c.args.files.now c.args.file.now in
    let has = has_bytes known _ _ c.as_slice.ensures.value c.in_ok-text.ensures.read.whole in
    refuses _ _ _ _ c.from_residual-in_err-read.ensures.1 (why_uncertified known _ _ has c.in_err-read.ensures)
