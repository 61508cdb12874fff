use Rattle.json_file.proofs.Names.{sym, ◌∙◌, arith}
use Rattle.std.proofs.lemmas.Result.{err_from_is_err_and}
use Rattle.json_file.proofs.Reading.{each_done, each_none, each_more, fails_then}
use Rattle.json_file.proofs.arrays.elements.Goals as goal

pub returns-in_err-read : goal.returns-in_err-read
returns-in_err-read g c =
    let p = err_from_is_err_and c.from_residual.result c.from_residual.ensures.1 in
    let vs = c.args.values.now in
    let f = c.loop-value.found.items in
    let i = c.loop-value.value-index in
    rw (p.1, p.2)
    (fails_then c.in_err-read.field-0.0 _ _
    (λ n. sym c.loop-value.invariant ∙ each_none g.E.FromValue.states f vs i c.value-item.result (omega arith) c.value-item.is n) c.in_err-read.ensures)

pub loop-value-preserved : goal.loop-value-preserved
loop-value-preserved g c =
    let vs = c.args.values.now in
    let f = c.loop-value.found.items in
    let i = c.loop-value.value-index in
    rw c.in_ok-push.ensures.items
    (sym (each_more g.E.FromValue.states f vs i c.value-item.result c.in_ok-read.field-0 (omega arith) c.value-item.is c.in_ok-read.ensures) ∙ c.loop-value.invariant)

pub returns : goal.returns
returns g c = sym c.loop-value.invariant ∙ each_done g.E.FromValue.states c.loop-value.found.items c.args.values.now c.loop-value.value-index (omega arith)
