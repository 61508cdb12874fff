use Rattle.certificate.proofs.Names.{◌∙◌, List, ℕ, subst, err_from_is_err_and, compact_text, length, ◌++◌, states_data}
use Rattle.std.specs.Prelude.{IsUtf8}
use Rattle.model.specs.Certificates.{Form}
use Rattle.certificate.specs.Views.{form_view}
use Rattle.certificate.specs.Writes.{FailsToPut, HasStates, HasTail}
use Rattle.certificate.proofs.Appended.{fails_by_states, has_certificate, head_of_certificate}
use Rattle.certificate.proofs.writing.put_certificate.Goals as goal

pub returns-in_err-put_states : goal.returns-in_err-put_states
returns-in_err-put_states c =
    let p = err_from_is_err_and c.from_residual-in_err-put_states.result c.from_residual-in_err-put_states.ensures.1 in
    let certificate = c.args.certificate.now in
    let old = c.args.text.now.items in
    let head = c.put_head.new.text.items in
    let why = c.in_err-put_states.field-0.0 in
    let put =
    head_of_certificate certificate (form_view c.form.result.now) c.in_ok-text_of.field-0.now c.in_ok-text_of-2.field-0.now c.in_ok-text_of-3.field-0.now c.in_ok-text_of-4.field-0.now old head
    c.form.ensures (c.in_ok-text_of.ensures.same ∙ c.exchange.ensures) (c.in_ok-text_of-2.ensures.same ∙ c.mode.ensures) (c.in_ok-text_of-3.ensures.same ∙ c.pattern.ensures)
    (c.in_ok-text_of-4.ensures.same ∙ c.queue.ensures) c.in_ok-put_head.ensures in
    rw (p.1, p.2)
    (fails_by_states certificate c.args.most old head why put.text
    (subst (λ (states : List (List ℕ)). FailsToPut why c.args.most (length (head ++ compact_text (states_data states))) (Unit {0})) c.states.ensures c.in_err-put_states.ensures))

pub returns : goal.returns
returns c =
    let certificate = c.args.certificate.now in
    let old = c.args.text.now.items in
    let head = c.put_head.new.text.items in
    let states = c.put_states.new.text.items in
    let whole = c.put_tail.new.text.items in
    let put =
    head_of_certificate certificate (form_view c.form.result.now) c.in_ok-text_of.field-0.now c.in_ok-text_of-2.field-0.now c.in_ok-text_of-3.field-0.now c.in_ok-text_of-4.field-0.now old head
    c.form.ensures (c.in_ok-text_of.ensures.same ∙ c.exchange.ensures) (c.in_ok-text_of-2.ensures.same ∙ c.mode.ensures) (c.in_ok-text_of-3.ensures.same ∙ c.pattern.ensures)
    (c.in_ok-text_of-4.ensures.same ∙ c.queue.ensures) c.in_ok-put_head.ensures in
    has_certificate certificate old head states whole put
    (subst (λ (listed : List (List ℕ)). HasStates head states listed) c.states.ensures c.in_ok-put_states.ensures)
    (subst (λ (form : Form). HasTail states whole form) c.form-2.ensures c.in_ok-put_tail.ensures)
    (subst IsUtf8 c.exchange.ensures c.in_ok-text_of.ensures.utf8) (subst IsUtf8 c.mode.ensures c.in_ok-text_of-2.ensures.utf8)
    (subst IsUtf8 c.pattern.ensures c.in_ok-text_of-3.ensures.utf8) (subst IsUtf8 c.queue.ensures c.in_ok-text_of-4.ensures.utf8)
