use Rattle.topic_match.proofs.Names.{◌≡◌, ◌++◌, ◌∷◌, [], ap, ◌∙◌, set, length, ℕ, List, rules}
use Rattle.topic_match.proofs.Grown.{added_linked}
use Rattle.topic_match.proofs.building.add_node.Goals as goal

pub returns-clause-linked : goal.returns-clause-linked
returns-clause-linked c =
    added_linked c.args.patterns.now c.args.nodes.now.items c.args.slots.now.items c.args.slot c.args.parent c.args.pattern c.args.depth c.push.new.self.items
    (set c.push-3.new.self.items c.args.slot c.len-node.result) c.requires.linked c.requires.parent c.requires.pattern c.requires.depth c.requires.before c.requires.slot c.requires.empty
    (record {
      nodes_are = c.in_ok-push.ensures.items;
      slots_are = ap (λ (z : List ℕ). set z c.args.slot c.len-node.result) (c.in_ok-push-3.ensures.items ∙ ap (λ (z : List ℕ). z ++ 0 ∷ []) c.in_ok-push-2.ensures.items)
          ∙ ap (λ (z : ℕ). set ((c.args.slots.now.items ++ 0 ∷ []) ++ 0 ∷ []) c.args.slot z) (let g : c.len-node.result ≡ length c.args.nodes.now.items = search rules in g);
    })
