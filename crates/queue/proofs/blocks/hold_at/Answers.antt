use Rattle.queue.proofs.Names.{rules, ap, length, ◌∙◌, is_ready, change_first, held_as}
use Rattle.queue.proofs.Filled.{alike_set, filled_alike, short_alike}
use Rattle.queue.proofs.Counts.{length-changed-all}
use Rattle.queue.proofs.Signed.{parts-written, room_kept}
use Rattle.queue.proofs.blocks.hold_at.Goals as goal

pub returns-clause-parts : goal.returns-clause-parts
returns-clause-parts c = parts-written c.args.blocks.now.items c.args.index c.index_mut.result.now _ (change_first is_ready (held_as c.args.holder)) (search rules) (search rules) c.hold.ensures.entries

pub returns-clause-bounds : goal.returns-clause-bounds
returns-clause-bounds c =
    let many = ap length c.hold.ensures.entries ∙ length-changed-all is_ready (held_as c.args.holder) c.index_mut.result.now.entries in
    let alike = alike_set c.args.blocks.now.items c.args.index c.index_mut.result.now _ (search rules) (search rules) c.hold.ensures.slots many in record {
      size = search rules;
      room = room_kept c.args.blocks.now.items c.args.index c.index_mut.result.now _ (search rules) (search rules) c.hold.ensures.room;
      filled = λ most f. filled_alike most _ _ alike f;
      short = λ s. short_alike _ _ alike s;
    }
