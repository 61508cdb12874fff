use Rattle.queue.proofs.Names.{rules, ap, length, ◌∙◌, is_under, freed, requeued, length-map}
use Rattle.queue.proofs.Filled.{alike_set, filled_alike, short_alike}
use Rattle.queue.proofs.Signed.{parts-written, room_kept}
use Rattle.queue.proofs.blocks.free_at.Goals as goal

pub returns-clause-parts : goal.returns-clause-parts
returns-clause-parts c = parts-written c.args.blocks.now.items c.args.index c.index_mut.result.now _ (requeued (is_under c.args.holder.now)) (search rules) (search rules) c.release.ensures.entries

pub returns-clause-bounds : goal.returns-clause-bounds
returns-clause-bounds c =
    let many = ap length c.release.ensures.entries ∙ length-map c.index_mut.result.now.entries (freed (is_under c.args.holder.now)) in
    let alike = alike_set c.args.blocks.now.items c.args.index c.index_mut.result.now _ (search rules) (search rules) c.release.ensures.slots many in record {
      size = search rules;
      room = room_kept c.args.blocks.now.items c.args.index c.index_mut.result.now _ (search rules) (search rules) c.release.ensures.room;
      filled = λ most f. filled_alike most _ _ alike f;
      short = λ s. short_alike _ _ alike s;
    }
