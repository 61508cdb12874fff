use Rattle.queue.proofs.Names.{◌≡◌, ◌≤◌, ◌<◌, ◌-◌, ℕ, true, rules, arith, length, sym, subst, vec_len, IfOk, OnErr}
use Rattle.queue.proofs.Signed.{parts-kept, room_is, room-last, last_place}
use Rattle.queue.proofs.Filled.{filled_last}
use Rattle.queue.proofs.blocks.reserve_last.Goals as goal

pub returns-clause-parts : goal.returns-clause-parts
returns-clause-parts c = parts-kept c.args.blocks.now.items (c.len-last.result - 1) c.index_mut.result.now _ (search rules) (search rules) c.reserve.ensures.entries

pub returns-clause-kept : goal.returns-clause-kept
returns-clause-kept c =
    let last = last_place (vec_len c.args.blocks.now) c.len-last.result (length c.args.blocks.now.items) (search rules) (cc (c.is_empty.ensures, c.if-is_empty.false)) c.len-last.ensures in
    let a = room-last 0 c.args.blocks.now.items (c.len-last.result - 1) c.reserve.new.self last in
    let b = room_is c.args.blocks.now.items (c.len-last.result - 1) c.index_mut.result.now last (search rules) in
    let k = c.reserve.ensures.kept in
    omega (arith, a, b, k)

pub returns-clause-room : goal.returns-clause-room
returns-clause-room c =
    let last = last_place (vec_len c.args.blocks.now) c.len-last.result (length c.args.blocks.now.items) (search rules) (cc (c.is_empty.ensures, c.if-is_empty.false)) c.len-last.ensures in
    subst (λ (r : ℕ). IfOk c.reserve.result (λ fits. fits ≡ true → c.args.more ≤ r)) (sym (room-last 0 c.args.blocks.now.items (c.len-last.result - 1) c.reserve.new.self last)) c.reserve.ensures.room

pub returns-clause-full : goal.returns-clause-full
returns-clause-full c =
    let last = last_place (vec_len c.args.blocks.now) c.len-last.result (length c.args.blocks.now.items) (search rules) (cc (c.is_empty.ensures, c.if-is_empty.false)) c.len-last.ensures in
    subst (λ (r : ℕ). OnErr c.reserve.result (r < c.args.more)) (sym (room_is c.args.blocks.now.items (c.len-last.result - 1) c.index_mut.result.now last (search rules))) c.reserve.ensures.full

pub returns-clause-filled : goal.returns-clause-filled
returns-clause-filled c f =
    let last = last_place (vec_len c.args.blocks.now) c.len-last.result (length c.args.blocks.now.items) (search rules) (cc (c.is_empty.ensures, c.if-is_empty.false)) c.len-last.ensures in
    filled_last 1024 c.args.blocks.now.items (c.len-last.result - 1) c.index_mut.result.now c.reserve.new.self last (search rules) c.reserve.ensures.slots f
