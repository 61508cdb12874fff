use Rattle.queue.proofs.Names.{◌≡◌, length, arith, rules, vec_len}
use Rattle.queue.proofs.Signed.{parts-kept, room-inner}
use Rattle.queue.proofs.blocks.give_back_at.Goals as goal

pub returns-clause-parts : goal.returns-clause-parts
returns-clause-parts c = parts-kept c.args.blocks.now.items c.args.place c.index_mut.result.now _ (search rules) (search rules) c.give_back.ensures.entries

pub returns-clause-room : goal.returns-clause-room
returns-clause-room c =
    let l : vec_len c.args.blocks.now ≡ length c.args.blocks.now.items = search rules in
    let w = c.requires.within in
    room-inner 0 c.args.blocks.now.items c.args.place _ (omega (arith, l, w))
