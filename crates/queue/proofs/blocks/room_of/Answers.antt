use Rattle.queue.proofs.Names.{◌≡◌, ◌∙◌, ◌+◌, ◌-◌, false, arith, length, sym, ◌==◌}
use Rattle.queue.proofs.Signed.{room_is, some_there}
use Rattle.queue.proofs.blocks.room_of.Goals as goal

pub returns : goal.returns
returns c =
    let filled : (length c.args.blocks.now == 0) ≡ false = cc (c.is_empty.ensures, c.if-is_empty.false) in
    let some = some_there (length c.args.blocks.now) filled in
    let last : (length c.args.blocks.now - 1) + 1 ≡ length c.args.blocks.now = omega (arith, some) in
    c.room.ensures ∙ sym (room_is c.args.blocks.now (length c.args.blocks.now - 1) c.index-blocks-blocks.result last c.index-blocks-blocks.is)
