use Rattle.runs.proofs.Names.{◌≡◌, ◌-◌, ◌++◌, ap, sym, ◌∙◌, slice_set, get_or, arith, Shown, gathered}
use Rattle.runs.proofs.Onward.{on_ok}
use Rattle.runs.proofs.Places.{gathered_some, gathered_past, gathered_is}
use Rattle.runs.proofs.transcript.add_to.Goals as goal

pub returns-then-place-connections-clause-ok : goal.returns-then-place-connections-clause-ok
returns-then-place-connections-clause-ok c =
    sym (gathered_some c.args.connections.now c.args.connection c.args.bytes.now c.if-connection-eq0.false ∙ gathered_past c.args.connections.now (c.args.connection - 1) c.args.bytes.now c.if-place-connections.true)

pub returns-clause-ok : goal.returns-clause-ok
returns-clause-ok c =
    let ss = c.args.connections.now in
    let i = c.args.connection - 1 in
    let s = get_or ss i c.index-connections-place.result in
    on_ok c.add.result (c.add.new.self ≡ record s { output = s.output ++ c.args.bytes.now }) (slice_set ss i c.add.new.self ≡ gathered ss c.args.connection c.args.bytes.now)
    (λ e. ap (λ (z : Shown). slice_set ss i z) e ∙ gathered_is ss i c.args.bytes.now c.index-connections-place.result (omega (arith, c.if-place-connections.false))
    ∙ sym (gathered_some ss c.args.connection c.args.bytes.now c.if-connection-eq0.false))
    c.add.ensures.ok
