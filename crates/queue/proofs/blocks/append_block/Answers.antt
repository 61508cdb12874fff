use Rattle.queue.proofs.Names.{◌≡◌, ◌≤◌, ◌-◌, ◌∙◌, ap, sym, subst, List, arith, rules, length, vec_len, is_held_as, Entry, tally, AreFilledBut, Stretch, parts, joined, last_room, AreBlocksSigned}
use Rattle.queue.proofs.Joined.{joined_nothing}
use Rattle.queue.proofs.Signed.{parts-end, room-end, signed_end}
use Rattle.queue.proofs.Filled.{but_end}
use Rattle.queue.proofs.blocks.append_block.Goals as goal

pub settle-requires-clause-marked : goal.settle-requires-clause-marked
settle-requires-clause-marked c =
    let is = ap (λ (bs : List Stretch). parts bs) c.push_reserved.ensures.items ∙ parts-end c.args.blocks.now.items _ c.requires.empty in record {
      signed = subst (λ (ps : List (List Entry)). AreBlocksSigned ps c.args.signs.now) (sym is) (signed_end (parts c.args.blocks.now.items) c.args.signs.now c.requires.marked.signed);
      places = search rules;
    }

pub settle-requires-clause-distinct : goal.settle-requires-clause-distinct
settle-requires-clause-distinct c holder =
    let is = ap (λ (bs : List Stretch). parts bs) c.push_reserved.ensures.items ∙ parts-end c.args.blocks.now.items _ c.requires.empty in
    subst (λ (es : List Entry). tally (is_held_as holder) es ≤ 1)
    (sym (ap (λ (ps : List (List Entry)). joined ps) is ∙ joined_nothing (parts c.args.blocks.now.items))) (c.requires.distinct holder)

pub returns-clause-entries : goal.returns-clause-entries
returns-clause-entries c =
    let is = ap (λ (bs : List Stretch). parts bs) c.push_reserved.ensures.items ∙ parts-end c.args.blocks.now.items _ c.requires.empty in
    c.settle.ensures.entries ∙ ap (λ (ps : List (List Entry)). joined ps) is ∙ joined_nothing (parts c.args.blocks.now.items)

pub returns-clause-room : goal.returns-clause-room
returns-clause-room c = c.settle.ensures.room ∙ ap (λ (bs : List Stretch). last_room bs) c.push_reserved.ensures.items ∙ room-end 0 c.args.blocks.now.items c.args.block

pub returns-clause-filled : goal.returns-clause-filled
returns-clause-filled c most few f =
    let l : vec_len c.args.blocks.now ≡ length c.args.blocks.now.items = search rules in
    let n = c.len.ensures in
    let before : c.saturating_sub-before.result ≡ length c.args.blocks.now.items - 1 = (let s = c.saturating_sub-before.ensures in omega (arith, s, n, l)) in
    c.settle.ensures.filled most (subst (λ (bs : List Stretch). AreFilledBut c.saturating_sub-before.result most bs) (sym c.push_reserved.ensures.items)
    (but_end most c.args.blocks.now.items c.args.block c.saturating_sub-before.result before few f))
