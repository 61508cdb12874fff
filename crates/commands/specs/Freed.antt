-- Requeueing the unacknowledged deliveries of a connection's channels, by the indices of the queues.
use Rattle.std.specs.Prelude.{◌≡◌, ℕ, ◌+◌, List, [], ◌∷◌, Option, Some, None}
use Rattle.model.specs.Deliveries.{Returns}
use Rattle.channels.specs.Open.{Open}
use Rattle.depot.specs.Store.{Store}
use Rattle.depot.specs.Settled.{AreSettledBy}
use Rattle.channels.specs.RunningConnections.{Running, outstanding_on}

-- The unacknowledged deliveries of the listed channels, numbered from `h` on, are ready again, channel by channel.
abbrev pub AreReturnedFrom : ℕ → ℕ → Store → List (Option Open) → Store → Type 0
AreReturnedFrom c h old [] new = new ≡ old
AreReturnedFrom c h old (o ∷ os) new = (mid : Store) × AreSettledBy Returns old c h (outstanding_on o) [] [] mid × AreReturnedFrom c (h + 1) mid os new

-- the unacknowledged deliveries of all channels of connection `c` are ready again, if it is running
abbrev pub AreReturnedAt : ℕ → Store → Option Running → Store → Type 0
AreReturnedAt c old None new = new ≡ old
AreReturnedAt c old (Some l) new = AreReturnedFrom c 0 old l.channels new
