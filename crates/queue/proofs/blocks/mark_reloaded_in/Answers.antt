use Rattle.queue.proofs.Names.{◌<◌, ◌+◌, length, arith, survived_block}
use Rattle.queue.proofs.Changing.{changed_next}
use Rattle.queue.proofs.blocks.mark_reloaded_in.Goals as goal

pub loop-block-preserved : goal.loop-block-preserved
loop-block-preserved c =
    let same = c.loop-block.auto.blocks in
    let within : c.loop-block.block-index < length c.loop-block.blocks = omega arith in
    changed_next survived_block c.loop-block.blocks c.args.blocks.now c.loop-block.block-index (c.loop-block.block-index + 1) c.mark_reloaded.new.self c.block-item.result
    (omega arith) within c.block-item.is c.loop-block.invariant c.mark_reloaded.ensures
