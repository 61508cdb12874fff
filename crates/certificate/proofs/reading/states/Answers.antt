use Rattle.certificate.proofs.Names.{sym, ◌∙◌, arith, err_from_is_err_and, each_done, each_none, each_more, fails_then, states_of}
use Rattle.certificate.specs.Stated.{state_in}
use Rattle.certificate.proofs.Listed.{states_more}
use Rattle.certificate.proofs.reading.states.Goals as goal

pub returns-in_err-state : goal.returns-in_err-state
returns-in_err-state c =
    let p = err_from_is_err_and c.from_residual.result c.from_residual.ensures.1 in
    let vs = c.args.values.now in
    let f = states_of c.loop-value.found.items in
    let i = c.loop-value.value-index in
    rw (p.1, p.2)
    (fails_then c.in_err-state.field-0.0 _ _
    (λ n. sym c.loop-value.invariant ∙ each_none state_in f vs i c.value-item.result (omega arith) c.value-item.is n) c.in_err-state.ensures)

pub loop-value-preserved : goal.loop-value-preserved
loop-value-preserved c =
    let vs = c.args.values.now in
    let f = states_of c.loop-value.found.items in
    let i = c.loop-value.value-index in
    rw (c.in_ok-push.ensures.items, states_more c.loop-value.found.items c.in_ok-state.field-0)
    (sym (each_more state_in f vs i c.value-item.result c.in_ok-state.field-0.items (omega arith) c.value-item.is c.in_ok-state.ensures) ∙ c.loop-value.invariant)

pub returns : goal.returns
returns c = sym c.loop-value.invariant ∙ each_done state_in (states_of c.loop-value.found.items) c.args.values.now c.loop-value.value-index (omega arith)
