use Rattle.queue.proofs.Names.{rules, subst, sym, List, true, ◌≡◌, is_ready, without_first, Entry, some_pass}
use Rattle.queue.proofs.Counts.{shorter}
use Rattle.queue.proofs.Filled.{but_taken}
use Rattle.queue.proofs.Signed.{parts-written, part_of, room_kept}
use Rattle.queue.proofs.blocks.take_at.Goals as goal

pub returns-clause-parts : goal.returns-clause-parts
returns-clause-parts c = parts-written c.args.blocks.now.items c.args.index c.index_mut.result.now _ (without_first is_ready) (search rules) (search rules) c.take_first.ensures.entries

pub returns-clause-bounds : goal.returns-clause-bounds
returns-clause-bounds c =
    let some : some_pass is_ready c.index_mut.result.now.entries ≡ true
    = subst (λ (es : List Entry). some_pass is_ready es ≡ true) (sym (part_of c.args.blocks.now.items c.args.index c.index_mut.result.now (search rules) (search rules))) c.requires.some in record {
      size = search rules;
      room = room_kept c.args.blocks.now.items c.args.index c.index_mut.result.now _ (search rules) (search rules) c.take_first.ensures.room;
      filled = λ most f. but_taken most c.args.blocks.now.items c.args.index c.index_mut.result.now _ (search rules) (search rules) c.take_first.ensures.slots
          (shorter is_ready c.index_mut.result.now.entries _ some c.take_first.ensures.entries) f;
    }
