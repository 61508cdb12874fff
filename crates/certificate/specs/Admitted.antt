-- A topology with guarantees that hold of it (own).
use Rattle.std.specs.Prelude.{List}
use Rattle.model.specs.Topology.{Topology}
use Rattle.model.specs.Guarantee.{Guarantee}

-- a topology, and the guarantees that were admitted with it
pub record Admitted : Type 0 where
  pub topology : Topology
  pub guarantees : List Guarantee
