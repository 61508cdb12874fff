use Rattle.queue.proofs.Names.{◌≡◌, ◌++◌, map, take, drop, survived_block}
use Rattle.queue.proofs.blocks.mark_reloaded_in.Given as goal

-- those before the index are done
abbrev pub invariant-loop-block : goal.invariant-loop-block
invariant-loop-block l = l.blocks ≡ map survived_block (take l.block-index l.fn.blocks) ++ drop l.block-index l.fn.blocks
