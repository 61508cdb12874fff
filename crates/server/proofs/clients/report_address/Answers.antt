use Rattle.server.proofs.Names.{◌∙◌, untaken}
use Rattle.server.specs.Clients.{wanting}
use Rattle.server.proofs.Outcomes.{untouched}
use Rattle.server.proofs.Beginning.{taken, not_taken}
use Rattle.server.proofs.clients.report_address.Goals as goal

pub returns-in_default : goal.returns-in_default
returns-in_default g c = wanting (untouched _) c.refuse_memory.ensures

pub returns-then-put_at_once : goal.returns-then-put_at_once
returns-then-put_at_once g c = (taken _ _ _ _ (c.as_bytes.ensures.value ∙ c.in-Ok.ensures) c.if-put_at_once.true c.put_at_once.ensures, untouched _)

pub returns : goal.returns
returns g c =
    let put = not_taken _ _ _ _ (c.as_bytes.ensures.value ∙ c.in-Ok.ensures) c.if-put_at_once.false c.put_at_once.ensures in
    untaken put.0 put.1 (untouched _)
