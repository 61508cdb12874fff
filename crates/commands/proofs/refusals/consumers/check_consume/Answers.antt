use Rattle.commands.proofs.Names.{◌∙◌, err_from_is_err_and, open_in}
use Rattle.commands.proofs.Consumes.{consumers_refusal}
use Rattle.commands.proofs.refusals.consumers.check_consume.Goals as goal

pub returns-in_err-check_consumer-clause-refusal : goal.returns-in_err-check_consumer-clause-refusal
returns-in_err-check_consumer-clause-refusal c = λ names.
    let p = err_from_is_err_and c.from_residual-in_err-check_consumer.result c.from_residual-in_err-check_consumer.ensures.1 in
    rw (p.1, p.2) (c.in_err-check_consumer.ensures names ∙ consumers_refusal c.args.topology.now (open_in names c.args.channel.now) c.args.consume.now c.in_ok-place.ensures.refusal c.in_ok-check_asking.ensures)
