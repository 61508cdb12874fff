use Rattle.queue.proofs.Names.{sym, subst, rules, List, filter_same, Stretch, is_in_use}
use Rattle.queue.specs.Blocks.{HaveGrown}
use Rattle.queue.proofs.Filled.{filled_in_use}
use Rattle.queue.proofs.Signed.{joined_in_use, room_in_use}
use Rattle.queue.proofs.blocks.drop_given_back.Goals as goal

pub returns-clause-grown : goal.returns-clause-grown
returns-clause-grown c =
    subst (λ (bs : List Stretch). HaveGrown c.args.blocks.now.items bs) (sym (filter_same _ is_in_use _ (λ x b f' r. search rules) _ _ c.retain.ensures.filtered))
    (record { entries = joined_in_use c.args.blocks.now.items; kept = room_in_use c.args.blocks.now.items; filled = filled_in_use 1024 c.args.blocks.now.items })
