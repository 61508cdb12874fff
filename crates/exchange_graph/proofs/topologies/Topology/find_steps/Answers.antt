use Rattle.exchange_graph.proofs.Names.{on_ok_weaker}
use Rattle.exchange_graph.proofs.Stepping.{steps_at}
use Rattle.exchange_graph.proofs.topologies.Topology.find_steps.Goals as goal

pub returns : goal.returns
returns c =
    on_ok_weaker c.lead_on.result
    (λ l. steps_at _ c.args.self.now c.self.inside.fans.items _ _ c.args.index c.args.key.now c.index.result.now c.lead_on.new.ends.items c.self.view_is c.self.invariant c.requires c.index.ensures l)
    c.lead_on.ensures
