use Rattle.topic_match.proofs.Grown.{ends_more}
use Rattle.topic_match.proofs.building.nodes_of.Goals as goal

pub loop-pattern-preserved : goal.loop-pattern-preserved
loop-pattern-preserved c = record {
  linked = c.in_ok-node.ensures.linked;
  ends = ends_more c.args.patterns.now c.loop-pattern.nodes.items c.node_of.new.nodes.items c.loop-pattern.pattern c.in_ok-node.node c.loop-pattern.ends.items c.push-in-loop-pattern.new.self.items
      c.in_ok-node.ensures.grown c.in_ok-node.ensures.made.0 c.in_ok-node.ensures.made.1 c.in_ok-push-2.ensures.items c.loop-pattern.invariant.ends;
}
