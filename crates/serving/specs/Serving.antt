-- What contracts see of a server.
use Rattle.std.specs.Prelude.{List, Option}
use Rattle.model.specs.Arrivals.{World}
use Rattle.serving.specs.Wire.{Traffic}
use Rattle.serving.specs.Story.{Served, served}
use Rattle.serving.specs.declared.peers.Peer.{Peer}

-- a server as contracts see it: its machine, and the peer in each slot
pub record Serving (M : Type 0) : Type 0 where
  pub machine : M
  pub peers : List (Option Peer)

-- the state of a server and its wire; `world` and `past` say what contracts see of the machine and of the wire
abbrev pub server_state : {M W : Type 0} → (M → World) → (W → Traffic) → Serving M → W → Served
server_state world past server wire = served (world server.machine) server.peers (past wire)
