use Rattle.queue.proofs.Names.{◌∙◌, rules, subst, sym, filter, List, true, ◌≡◌, ◌≤◌, is_held_as, Entry, tally, some_pass}
use Rattle.std.proofs.Common.{not}
use Rattle.queue.proofs.Counts.{shorter}
use Rattle.queue.proofs.Filled.{but_taken}
use Rattle.queue.proofs.Joined.{once_left_out}
use Rattle.queue.proofs.Signed.{parts-written, part_of, room_kept}
use Rattle.queue.proofs.blocks.remove_at.Goals as goal

pub returns-clause-parts : goal.returns-clause-parts
returns-clause-parts c = parts-written c.args.blocks.now.items c.args.index c.index_mut.result.now _ (filter (λ e. not (is_held_as c.args.holder.now e))) (search rules) (search rules) c.remove.ensures.entries

pub returns-clause-bounds : goal.returns-clause-bounds
returns-clause-bounds c =
    let p = is_held_as c.args.holder.now in
    let part = sym (part_of c.args.blocks.now.items c.args.index c.index_mut.result.now (search rules) (search rules)) in
    let some : some_pass p c.index_mut.result.now.entries ≡ true = subst (λ (es : List Entry). some_pass p es ≡ true) part c.requires.some in
    let once : tally p c.index_mut.result.now.entries ≤ 1 = subst (λ (es : List Entry). tally p es ≤ 1) part c.requires.once in record {
      size = search rules;
      room = room_kept c.args.blocks.now.items c.args.index c.index_mut.result.now _ (search rules) (search rules) c.remove.ensures.room;
      filled = λ most f. but_taken most c.args.blocks.now.items c.args.index c.index_mut.result.now _ (search rules) (search rules) c.remove.ensures.slots
          (shorter p c.index_mut.result.now.entries _ some (c.remove.ensures.entries ∙ once_left_out p c.index_mut.result.now.entries once)) f;
    }
