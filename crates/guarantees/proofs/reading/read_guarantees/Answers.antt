use Rattle.guarantees.proofs.Names.{List, sym, subst, err_from_is_err_and, All, Guarantee, Worded, refused_unread, IsGuaranteeWorded, AreAccepted, AreClearFor}
use Rattle.guarantees.specs.Stated.{guarantees_at}
use Rattle.guarantees.proofs.Keeping.{all_worded}
use Rattle.guarantees.proofs.Whole.{accepted, refused}
use Rattle.guarantees.proofs.reading.read_guarantees.Goals as goal

pub kept-requires : goal.kept-requires
kept-requires c =
    all_worded c.in_ok-stated.stated.items (subst (λ (z : List Guarantee). All IsGuaranteeWorded z) c.as_slice.ensures.value (c.in_ok-check_guarantees.ensures Worded))

pub returns-in_err-stated : goal.returns-in_err-stated
returns-in_err-stated c =
    let p = err_from_is_err_and c.from_residual.result c.from_residual.ensures.1 in
    rw (p.1, p.2) (refused_unread guarantees_at (AreClearFor c.args.topology.now) c.args.bytes.now c.in_err-stated.field-0.0 c.in_err-stated.ensures)

pub returns-in_err-check_guarantees : goal.returns-in_err-check_guarantees
returns-in_err-check_guarantees c =
    let p = err_from_is_err_and c.from_residual-in_err-check_guarantees.result c.from_residual-in_err-check_guarantees.ensures.1 in
    rw (p.1, p.2) (refused c.args.bytes.now c.args.topology.now c.in_ok-stated.stated.items c.in_err-check_guarantees.field-0.0 c.in_ok-stated.ensures
    (rw (← c.as_slice.ensures.value) c.in_err-check_guarantees.ensures))

pub returns : goal.returns
returns c =
    subst (λ (z : List Guarantee). AreAccepted z c.args.topology.now c.args.bytes.now) (sym c.in_ok-guarantees.ensures)
    (accepted c.args.bytes.now c.args.topology.now c.in_ok-stated.stated.items c.in_ok-stated.ensures (rw (← c.as_slice.ensures.value) c.in_ok-check_guarantees.ensures))
