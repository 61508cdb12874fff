use Rattle.engine.proofs.Waiting.{none_back}
use Rattle.engine.proofs.performing.by_phase.Goals as goal

pub returns-clause-later : goal.returns-clause-later
returns-clause-later c = none_back c.args.broker.now c.open_if.new.broker c.in_ok-open_if.ensures.later
