use Rattle.certificate.proofs.Names.{sym, ◌∙◌, IfOk-weaker}
use Rattle.certificate.proofs.Refuting.{broken_never, its_own}
use Rattle.certificate.proofs.refutations.breaks.Goals as goal

pub returns-in-Never : goal.returns-in-Never
returns-in-Never c =
    let t = c.args.topology.now in
    let g = c.args.guarantee.now in
    let r = c.args.refutation.now in
    IfOk-weaker c.is_path.result _ _
    (λ y d. broken_never t g r y (sym c.mode.ensures ∙ c.in-Never.is)
    (its_own t g r y c.as_bytes-exchange.result.now c.key-key.result.now c.as_bytes-queue.result.now c.path.result.now
    (c.as_bytes-exchange.ensures ∙ c.exchange.ensures) c.key-key.ensures (c.as_bytes-queue.ensures ∙ c.queue.ensures) c.path.ensures d))
    c.is_path.ensures
