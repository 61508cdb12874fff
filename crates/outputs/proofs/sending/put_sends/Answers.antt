use Rattle.outputs.proofs.Putting.{all_spelled, all_received}
use Rattle.outputs.proofs.sending.put_sends.Goals as goal

pub returns : goal.returns
returns c = record {
  bytes = c.put_each.ensures;
  spelled = all_spelled c.args.c c.args.max c.args.sends.now c.requires.max c.requires.own.each;
  own = all_received c.args.c c.args.sends.now c.requires.own.each;
}
