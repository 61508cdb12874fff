use Rattle.guarantees.proofs.Names.{err_from_is_err_and, unread}
use Rattle.serde_json.specs.View.{view}
use Rattle.guarantees.specs.Stated.{guarantees_at}
use Rattle.guarantees.proofs.reading.open.Goals as goal

pub returns-in_err-guarantees : goal.returns-in_err-guarantees
unfolding guarantees_at
returns-in_err-guarantees c =
    let p = err_from_is_err_and c.from_residual-in_err-guarantees.result c.from_residual-in_err-guarantees.ensures.1 in
    rw (p.1, p.2) (unread guarantees_at c.args.bytes.now (view c.in_ok-value.value) c.in_err-guarantees.field-0.0 c.in_ok-value.ensures c.in_err-guarantees.ensures)

pub returns : goal.returns
unfolding guarantees_at
returns c = record { value = view c.in_ok-value.value; json = c.in_ok-value.ensures; states = c.in_ok-guarantees.ensures }
