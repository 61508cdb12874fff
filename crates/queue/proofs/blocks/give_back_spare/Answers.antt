use Rattle.queue.proofs.Names.{◌-◌, rules}
use Rattle.queue.proofs.Signed.{parts-kept}
use Rattle.queue.proofs.blocks.give_back_spare.Goals as goal

pub returns-then-is_whole-clause-parts : goal.returns-then-is_whole-clause-parts
returns-then-is_whole-clause-parts c = parts-kept c.args.blocks.now.items (c.len-last.result - 1) c.index_mut.result.now _ (search rules) (search rules) c.give_back.ensures.entries
