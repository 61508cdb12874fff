use Rattle.queue.proofs.Names.{◌≡◌, ◌∙◌, ◌<◌, ◌+◌, ◌++◌, List, length, get_or, ap, subst, arith, rules, vec_len, Entry, Stretch, parts, joined, last_room}
use Rattle.std.proofs.Math.ListN.{set}
use Rattle.queue.proofs.Removed.{entries_joined, room_joined, apart_there}
use Rattle.queue.proofs.blocks.join_at.Goals as goal

pub take_in-requires-clause-distinct : goal.take_in-requires-clause-distinct
take_in-requires-clause-distinct c holder =
    let l : vec_len c.args.blocks.now ≡ length c.args.blocks.now.items = search rules in
    let lt : c.args.place + 1 < length c.args.blocks.now.items = (let w = c.requires.within in omega (arith, w, l)) in
    let at = subst (λ (bs : List Stretch). c.index_mut.result.now ≡ get_or bs c.args.place c.index_mut.result.now) c.remove-next.ensures.items (search rules) in
    rw c.into_slots.ensures (apart_there c.args.blocks.now.items c.args.place c.index_mut.result.now c.remove-next.result holder lt at (search rules) c.requires.distinct)

pub returns-clause-entries : goal.returns-clause-entries
returns-clause-entries c =
    let l : vec_len c.args.blocks.now ≡ length c.args.blocks.now.items = search rules in
    let lt : c.args.place + 1 < length c.args.blocks.now.items = (let w = c.requires.within in omega (arith, w, l)) in
    let at = subst (λ (bs : List Stretch). c.index_mut.result.now ≡ get_or bs c.args.place c.index_mut.result.now) c.remove-next.ensures.items (search rules) in
    let es = c.take_in.ensures.entries ∙ ap (λ (es : List Entry). c.index_mut.result.now.entries ++ es) c.into_slots.ensures in
    ap (λ (bs : List Stretch). joined (parts (set bs c.args.place c.take_in.new.self))) c.remove-next.ensures.items
    ∙ entries_joined c.args.blocks.now.items c.args.place c.index_mut.result.now c.take_in.new.self c.remove-next.result lt at (search rules) es

pub returns-clause-room : goal.returns-clause-room
returns-clause-room c lt =
    let l : vec_len c.args.blocks.now ≡ length c.args.blocks.now.items = search rules in
    ap (λ (bs : List Stretch). last_room (set bs c.args.place c.take_in.new.self)) c.remove-next.ensures.items
    ∙ room_joined c.args.blocks.now.items c.args.place c.take_in.new.self (omega (arith, lt, l))
