use Rattle.certificate.proofs.Names.{err_from_is_err_and, view}
use Rattle.json_file.proofs.Refused.{unread}
use Rattle.certificate.specs.Stated.{certificates_stated}
use Rattle.certificate.proofs.certificates.Certificate.read.Goals as goal

pub returns-in_err-found : goal.returns-in_err-found
returns-in_err-found c =
    let p = err_from_is_err_and c.from_residual-in_err-found.result c.from_residual-in_err-found.ensures.1 in
    rw (p.1, p.2) (unread certificates_stated c.args.bytes.now (view c.in_ok-value.value) c.in_err-found.field-0.0 c.in_ok-value.ensures c.in_err-found.ensures)

pub returns : goal.returns
returns c = record { value = view c.in_ok-value.value; json = c.in_ok-value.ensures; states = c.in_ok-found.ensures }
