use Rattle.definitions.proofs.Imports.{subst, Decides, Topology, AllJoin}
use Rattle.definitions.proofs.causes.has_all_join.Goals as goal

pub returns : goal.returns
returns c = subst (λ (t : Topology). Decides c.joins.result (AllJoin t)) c.requires c.joins.ensures
