use Rattle.definitions.proofs.Imports.{◌≡◌, None, refl, err_from_is_err_and, codes, view, optional_number_member, optional_text_member, fails_then}
use Rattle.definitions.specs.Shape.{queue_arguments_at}
use Rattle.definitions.proofs.shape.queue_arguments.Goals as goal

pub returns-in_err-max_length : goal.returns-in_err-max_length
unfolding queue_arguments_at
returns-in_err-max_length c =
    let p = err_from_is_err_and c.from_residual-in_err-max_length.result c.from_residual-in_err-max_length.ensures.1 in
    rw (p.1, p.2)
    (fails_then c.in_err-max_length.field-0.0 _ _ (λ (n : optional_number_member (codes "x-max-length") (view c.in_ok-stated.stated.now) ≡ None). rw (c.in_ok-stated.ensures, n) refl) c.in_err-max_length.ensures)

pub returns-in_err-max_bytes : goal.returns-in_err-max_bytes
unfolding queue_arguments_at
returns-in_err-max_bytes c =
    let p = err_from_is_err_and c.from_residual-in_err-max_bytes.result c.from_residual-in_err-max_bytes.ensures.1 in
    rw (p.1, p.2)
    (fails_then c.in_err-max_bytes.field-0.0 _ _ (λ (n : optional_number_member (codes "x-max-length-bytes") (view c.in_ok-stated.stated.now) ≡ None). rw (c.in_ok-stated.ensures, c.in_ok-max_length.ensures, n) refl) c.in_err-max_bytes.ensures)

pub returns-in_err-overflow : goal.returns-in_err-overflow
unfolding queue_arguments_at
returns-in_err-overflow c =
    let p = err_from_is_err_and c.from_residual-in_err-overflow.result c.from_residual-in_err-overflow.ensures.1 in
    rw (p.1, p.2)
    (fails_then c.in_err-overflow.field-0.0 _ _ (λ (n : optional_text_member (codes "x-overflow") (view c.in_ok-stated.stated.now) ≡ None). rw (c.in_ok-stated.ensures, c.in_ok-max_length.ensures, c.in_ok-max_bytes.ensures, n) refl) c.in_err-overflow.ensures)

pub returns-in_err-dead_letter_exchange : goal.returns-in_err-dead_letter_exchange
unfolding queue_arguments_at
returns-in_err-dead_letter_exchange c =
    let p = err_from_is_err_and c.from_residual-in_err-dead_letter_exchange.result c.from_residual-in_err-dead_letter_exchange.ensures.1 in
    rw (p.1, p.2)
    (fails_then c.in_err-dead_letter_exchange.field-0.0 _ _ (λ (n : optional_text_member (codes "x-dead-letter-exchange") (view c.in_ok-stated.stated.now) ≡ None). rw (c.in_ok-stated.ensures, c.in_ok-max_length.ensures, c.in_ok-max_bytes.ensures, c.in_ok-overflow.ensures, n) refl) c.in_err-dead_letter_exchange.ensures)

pub returns-in_err-dead_letter_key : goal.returns-in_err-dead_letter_key
unfolding queue_arguments_at
returns-in_err-dead_letter_key c =
    let p = err_from_is_err_and c.from_residual-in_err-dead_letter_key.result c.from_residual-in_err-dead_letter_key.ensures.1 in
    rw (p.1, p.2)
    (fails_then c.in_err-dead_letter_key.field-0.0 _ _ (λ (n : optional_text_member (codes "x-dead-letter-routing-key") (view c.in_ok-stated.stated.now) ≡ None). rw (c.in_ok-stated.ensures, c.in_ok-max_length.ensures, c.in_ok-max_bytes.ensures, c.in_ok-overflow.ensures, c.in_ok-dead_letter_exchange.ensures, n) refl) c.in_err-dead_letter_key.ensures)

pub returns : goal.returns
unfolding queue_arguments_at
returns c =
    rw (c.in_ok-stated.ensures, c.in_ok-max_length.ensures, c.in_ok-max_bytes.ensures, c.in_ok-overflow.ensures, c.in_ok-dead_letter_exchange.ensures, c.in_ok-dead_letter_key.ensures, c.has_only-listed.ensures) refl
