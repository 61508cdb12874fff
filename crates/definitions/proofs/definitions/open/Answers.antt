use Rattle.definitions.proofs.Imports.{err_from_is_err_and, view, unread}
use Rattle.definitions.specs.File.{file_at}
use Rattle.definitions.proofs.definitions.open.Goals as goal

pub returns-in_err-document : goal.returns-in_err-document
returns-in_err-document c =
    let p = err_from_is_err_and c.from_residual-in_err-document.result c.from_residual-in_err-document.ensures.1 in
    rw (p.1, p.2) (unread file_at c.args.bytes.now (view c.in_ok-value.value) c.in_err-document.field-0.0 c.in_ok-value.ensures c.in_err-document.ensures)
