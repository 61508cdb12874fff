use Rattle.broker.proofs.Names.{length, arith, option_copied, Nobody}
use Rattle.std.proofs.Common.{◌≡◌}
use Rattle.broker.proofs.Adding.{slot_more, slot_all}
use Rattle.broker.proofs.rounds.leaving.gone_with.Goals as goal

pub loop-place-preserved : goal.loop-place-preserved
loop-place-preserved c = record {
  added = slot_more c.args.connection c.args.count c.args.running.now c.loop-place.place (option_copied c.channel.result) Nobody c.loop-place.gone c.and_all-gone.result c.args.named.now c.loop-place.named c.and_all-gone.new.named c.channel.ensures c.loop-place.invariant.added
      c.and_all-gone.ensures;
}

pub returns : goal.returns
returns c =
    let all : c.loop-place.place ≡ length c.args.running.now.channels = omega arith in
    slot_all c.args.connection c.args.count c.args.running.now c.loop-place.place Nobody c.loop-place.gone c.args.named.now c.loop-place.named all c.loop-place.invariant.added
