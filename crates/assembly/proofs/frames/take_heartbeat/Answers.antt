use Rattle.assembly.proofs.Imports.{rules}
use Rattle.assembly.proofs.Places.{with_one_same}
use Rattle.assembly.proofs.frames.take_heartbeat.Goals as goal

pub returns-then-is_empty : goal.returns-then-is_empty
returns-then-is_empty c = λ old. (old c.args.frame.now.channel, search rules, with_one_same old c.args.frame.now.channel)
