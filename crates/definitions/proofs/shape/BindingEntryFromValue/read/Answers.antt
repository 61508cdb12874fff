use Rattle.definitions.proofs.Imports.{◌≡◌, None, refl, err_from_is_err_and, codes, view, text_member, fails_then}
use Rattle.definitions.specs.Shape.{binding_entry_at}
use Rattle.definitions.proofs.shape.BindingEntryFromValue.read.Goals as goal

pub returns-in_err-key : goal.returns-in_err-key
unfolding binding_entry_at
returns-in_err-key c =
    let p = err_from_is_err_and c.from_residual-in_err-key.result c.from_residual-in_err-key.ensures.1 in
    rw (p.1, p.2)
    (fails_then c.in_err-key.field-0.0 _ _
    (λ (n : text_member (codes "routing_key") (view c.args.value.now) ≡ None). rw (c.in_ok-source.ensures, c.in_ok-vhost.ensures, c.in_ok-destination.ensures, c.in_ok-destination_type.ensures, n) refl) c.in_err-key.ensures)

pub returns : goal.returns
unfolding binding_entry_at
returns c =
    rw (c.in_ok-source.ensures, c.in_ok-vhost.ensures, c.in_ok-destination.ensures, c.in_ok-destination_type.ensures, c.in_ok-key.ensures, c.in_ok-listed.ensures) refl
