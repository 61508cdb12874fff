use Rattle.definitions.proofs.Imports.{err_from_is_err_and, refused_unread, file_of, IsClear}
use Rattle.definitions.specs.File.{file_at}
use Rattle.definitions.proofs.Whole.{read_whole}
use Rattle.definitions.proofs.definitions.read_definitions.Goals as goal

pub returns : goal.returns
returns c = read_whole c.args.bytes.now (file_of c.in_ok-document.document) c.set_up.result c.in_ok-document.ensures c.set_up.ensures

pub returns-in_err-document : goal.returns-in_err-document
returns-in_err-document c =
    let p = err_from_is_err_and c.from_residual.result c.from_residual.ensures.1 in
    rw (p.1, p.2) (refused_unread file_at IsClear c.args.bytes.now c.in_err-document.field-0.0 c.in_err-document.ensures)
