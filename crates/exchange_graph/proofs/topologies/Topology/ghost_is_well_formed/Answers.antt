use Rattle.exchange_graph.proofs.Good.{well_formed}
use Rattle.exchange_graph.proofs.topologies.Topology.ghost_is_well_formed.Goals as goal

pub returns : goal.returns
returns c = well_formed _ c.ghost_is_buildable.ensures
