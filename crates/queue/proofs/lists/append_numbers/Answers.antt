use Rattle.queue.proofs.Names.{◌≡◌, rules, arith, length, vec_len, vec_capacity}
use Rattle.queue.proofs.Purging.{room_next}
use Rattle.queue.proofs.lists.append_numbers.Goals as goal

pub append_number-requires : goal.append_number-requires
append_number-requires c =
    let now : vec_len c.loop-entry.numbers ≡ length c.loop-entry.numbers.items = search rules in
    let was : vec_len c.args.numbers.now ≡ length c.args.numbers.now.items = search rules in
    let same = c.loop-entry.invariant.capacity in
    let enough = c.requires in
    let next = room_next c.loop-entry.numbers.items c.args.numbers.now.items c.args.entries.now c.loop-entry.entry-index (vec_capacity c.args.numbers.now) c.entry-item.result c.loop-entry-test.true c.entry-item.is c.loop-entry.invariant.numbers (omega arith) in
    omega arith
