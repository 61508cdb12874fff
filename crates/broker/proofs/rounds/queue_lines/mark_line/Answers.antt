use Rattle.broker.proofs.Names.{◌∙◌, sym}
use Rattle.broker.proofs.Members.{none_next}
use Rattle.broker.proofs.rounds.queue_lines.mark_line.Goals as goal

pub returns-else-is_some-clause-here : goal.returns-else-is_some-clause-here
returns-else-is_some-clause-here c = λ p up. absurd (none_next c.next_awake.result c.args.line.now.order p (sym c.is_some.ensures ∙ c.if-is_some.false) c.next_awake.ensures.none up)
