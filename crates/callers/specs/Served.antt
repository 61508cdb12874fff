-- The bytes that one client of a server in memory receives (own).
use Rattle.std.specs.Prelude.{◌≡◌, ℕ, List, Some, flat_map}
use Rattle.model.specs.State.{Config}
use Rattle.model.specs.Arrivals.{World}
use Rattle.runs.specs.Wants.{Lacks}
use Rattle.serving.specs.Wire.{Call}
use Rattle.serving.specs.Joined.{written_to}
use Rattle.memory_wire.specs.Served.{LogsBytes}

-- `bytes` are those that a server in memory wrote to the socket of its first client, by its log. `LogsBytes` says that the promises were kept, and that
-- the bytes are a prefix of the output of the client's connection.
pub record IsServed (L : Lacks) (f : Config) (bytes : List ℕ) : Type 0 where
  pub calls : List Call
  pub last : World
  pub logs : LogsBytes L f (Some calls) last
  pub took : bytes ≡ flat_map (written_to 0) calls
