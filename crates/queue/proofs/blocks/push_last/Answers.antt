use Rattle.queue.proofs.Names.{◌∙◌, ◌<◌, ◌+◌, ◌-◌, ◌++◌, ◌∷◌, [], ℕ, rules, arith, length, ap, sym, subst, List, length-append, Entry, Ready}
use Rattle.queue.proofs.Filled.{filled_last, short_held}
use Rattle.queue.proofs.Signed.{last_index, parts-written, room_is, room-last}
use Rattle.queue.proofs.blocks.push_last.Goals as goal

pub push-requires : goal.push-requires
push-requires c =
    let last = last_index c.args.blocks.now c.len-last.result c.requires c.len-last.ensures in
    subst (λ (r : ℕ). 0 < r) (room_is c.args.blocks.now.items (c.len-last.result - 1) c.index_mut.result.now last (search rules)) c.requires

pub returns-clause-parts : goal.returns-clause-parts
returns-clause-parts c =
    let last = last_index c.args.blocks.now c.len-last.result c.requires c.len-last.ensures in
    parts-written c.args.blocks.now.items (c.len-last.result - 1) c.index_mut.result.now _ (λ (es : List Entry). es ++ record { message = c.args.message; mark = Ready } ∷ []) (omega (arith, last)) (search rules) c.push.ensures.entries

pub returns-clause-room : goal.returns-clause-room
returns-clause-room c =
    let last = last_index c.args.blocks.now c.len-last.result c.requires c.len-last.ensures in
    ap (λ (r : ℕ). r + 1) (room-last 0 c.args.blocks.now.items (c.len-last.result - 1) c.push.new.self last)
    ∙ c.push.ensures.room ∙ sym (room_is c.args.blocks.now.items (c.len-last.result - 1) c.index_mut.result.now last (search rules))

pub returns-clause-filled : goal.returns-clause-filled
returns-clause-filled c most f =
    let last = last_index c.args.blocks.now c.len-last.result c.requires c.len-last.ensures in
    let s = c.push.ensures.slots in
    filled_last most c.args.blocks.now.items (c.len-last.result - 1) c.index_mut.result.now c.push.new.self last (search rules) (λ m. omega (arith, m, s)) f

pub returns-clause-short : goal.returns-clause-short
returns-clause-short c =
    let last = last_index c.args.blocks.now c.len-last.result c.requires c.len-last.ensures in
    let e = ap length c.push.ensures.entries in
    let one = length-append c.index_mut.result.now.entries (record { message = c.args.message; mark = Ready } ∷ []) in
    short_held c.args.blocks.now.items (c.len-last.result - 1) c.push.new.self last (omega (arith, e, one))
