use Rattle.topic_match.proofs.Names.{arith}
use Rattle.topic_match.proofs.Slots.{all_on, child_in, none_found, put_on, slot_is, within_on}
use Rattle.topic_match.proofs.children.slot_of.Goals as goal

pub returns-then-is_behind : goal.returns-then-is_behind
returns-then-is_behind c =
    let e = c.in-Some.ensures in
    slot_is c.args.patterns.now c.args.nodes.now c.heads_of-heads.result c.args.slots.now c.args.at c.args.token.now c.tree.slot c.tree.bits c.heads_of-heads.ensures c.tree.invariant.within
    c.tree.invariant.put
    (λ h. child_in c.args.patterns.now c.args.nodes.now c.args.slots.now c.args.at c.args.token.now c.tree.slot c.in-Some.node c.requires e.0 e.1 (c.is_behind.ensures.0 c.if-is_behind.true))
    (λ z d i. absurd (omega (arith, e.0, e.1, z)))

pub tree-preserved : goal.tree-preserved
tree-preserved c =
    let e = c.in-Some.ensures in
    record {
      within = within_on c.args.patterns.now c.args.nodes.now c.heads_of-heads.result c.args.slots.now c.tree.slot c.tree.bits c.in-Some.node c.slot_behind-slot.result c.requires c.heads_of-heads.ensures e.1
          c.slot_behind-slot.ensures;
      all = all_on c.args.patterns.now c.args.nodes.now c.heads_of-heads.result c.args.slots.now c.args.at c.args.token.now c.tree.slot c.tree.bits c.in-Some.node c.slot_behind-slot.result c.is_behind.result
          e.1 c.slot_behind-slot.ensures c.is_behind.ensures c.if-is_behind.false c.tree.invariant.all;
      put = put_on c.heads_of-heads.result c.args.slots.now c.args.at c.args.token.now c.tree.slot c.tree.bits c.in-Some.node c.slot_behind-slot.result e.0 e.1 c.slot_behind-slot.ensures
          c.tree.invariant.put;
    }

pub returns : goal.returns
returns c =
    slot_is c.args.patterns.now c.args.nodes.now c.heads_of-heads.result c.args.slots.now c.args.at c.args.token.now c.tree.slot c.tree.bits c.heads_of-heads.ensures c.tree.invariant.within
    c.tree.invariant.put (λ h. absurd (let e = c.in_default.ensures in omega (arith, h, e)))
    (λ z d i. none_found c.heads_of-heads.result c.args.slots.now c.tree.slot c.tree.bits d z (c.tree.invariant.all d i) i.some)
