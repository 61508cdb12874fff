use Rattle.definitions.proofs.Imports.{◌≡◌, None, refl, err_from_is_err_and, codes, view, fails_then, user_entry_at, permission_entry_at, exchange_entry_at, queue_entry_at, plain_at, entries_at}
use Rattle.definitions.specs.Shape.{binding_entry_at}
use Rattle.definitions.specs.File.{file_at}
use Rattle.definitions.proofs.shape.document.Goals as goal

pub returns-in_err-users : goal.returns-in_err-users
unfolding file_at
returns-in_err-users c =
    let p = err_from_is_err_and c.from_residual-in_err-users.result c.from_residual-in_err-users.ensures.1 in
    rw (p.1, p.2) (fails_then c.in_err-users.field-0.0 _ _ (λ (n : entries_at user_entry_at (codes "users") (view c.args.value.now) ≡ None). rw (c.in_ok-vhosts.ensures, n) refl) c.in_err-users.ensures)

pub returns-in_err-permissions : goal.returns-in_err-permissions
unfolding file_at
returns-in_err-permissions c =
    let p = err_from_is_err_and c.from_residual-in_err-permissions.result c.from_residual-in_err-permissions.ensures.1 in
    rw (p.1, p.2) (fails_then c.in_err-permissions.field-0.0 _ _ (λ (n : entries_at permission_entry_at (codes "permissions") (view c.args.value.now) ≡ None). rw (c.in_ok-vhosts.ensures, c.in_ok-users.ensures, n) refl) c.in_err-permissions.ensures)

pub returns-in_err-exchanges : goal.returns-in_err-exchanges
unfolding file_at
returns-in_err-exchanges c =
    let p = err_from_is_err_and c.from_residual-in_err-exchanges.result c.from_residual-in_err-exchanges.ensures.1 in
    rw (p.1, p.2) (fails_then c.in_err-exchanges.field-0.0 _ _ (λ (n : entries_at exchange_entry_at (codes "exchanges") (view c.args.value.now) ≡ None). rw (c.in_ok-vhosts.ensures, c.in_ok-users.ensures, c.in_ok-permissions.ensures, n) refl) c.in_err-exchanges.ensures)

pub returns-in_err-queues : goal.returns-in_err-queues
unfolding file_at
returns-in_err-queues c =
    let p = err_from_is_err_and c.from_residual-in_err-queues.result c.from_residual-in_err-queues.ensures.1 in
    rw (p.1, p.2) (fails_then c.in_err-queues.field-0.0 _ _ (λ (n : entries_at queue_entry_at (codes "queues") (view c.args.value.now) ≡ None). rw (c.in_ok-vhosts.ensures, c.in_ok-users.ensures, c.in_ok-permissions.ensures, c.in_ok-exchanges.ensures, n) refl) c.in_err-queues.ensures)

pub returns-in_err-bindings : goal.returns-in_err-bindings
unfolding file_at
returns-in_err-bindings c =
    let p = err_from_is_err_and c.from_residual-in_err-bindings.result c.from_residual-in_err-bindings.ensures.1 in
    rw (p.1, p.2) (fails_then c.in_err-bindings.field-0.0 _ _ (λ (n : entries_at binding_entry_at (codes "bindings") (view c.args.value.now) ≡ None). rw (c.in_ok-vhosts.ensures, c.in_ok-users.ensures, c.in_ok-permissions.ensures, c.in_ok-exchanges.ensures, c.in_ok-queues.ensures, n) refl) c.in_err-bindings.ensures)

pub returns-in_err-plain : goal.returns-in_err-plain
unfolding file_at
returns-in_err-plain c =
    let p = err_from_is_err_and c.from_residual-in_err-plain.result c.from_residual-in_err-plain.ensures.1 in
    rw (p.1, p.2) (fails_then c.in_err-plain.field-0.0 _ _ (λ (n : plain_at (view c.args.value.now) ≡ None). rw (c.in_ok-vhosts.ensures, c.in_ok-users.ensures, c.in_ok-permissions.ensures, c.in_ok-exchanges.ensures, c.in_ok-queues.ensures, c.in_ok-bindings.ensures, n) refl) c.in_err-plain.ensures)

pub returns : goal.returns
unfolding file_at
returns c =
    rw (c.in_ok-vhosts.ensures, c.in_ok-users.ensures, c.in_ok-permissions.ensures, c.in_ok-exchanges.ensures, c.in_ok-queues.ensures, c.in_ok-bindings.ensures, c.in_ok-plain.ensures) refl
