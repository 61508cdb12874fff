use Rattle.commands.proofs.Consumes.{refusal_as_seen}
use Rattle.commands.proofs.refusals.consumers.check_consumer.Goals as goal

pub returns-in-Some : goal.returns-in-Some
returns-in-Some c = λ names. rw c.from.ensures (refusal_as_seen names c.args.channel.now c.args.consume.now c.in-Some.why c.in-Some.ensures)
