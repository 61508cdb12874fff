-- What becomes of the connections when a borrow of a connection or a channel ends.
use Rattle.std.specs.Prelude.{◌≡◌, ℕ, List, Option, Some}
use Rattle.std.specs.Borrow.{LendsIf, LendsSo, MutBor, Fml}
use Rattle.channels.specs.Open.{Open}
use Rattle.channels.specs.contracts.channels.Channel.{the_row as channel_row}
use Rattle.channels.specs.RunningConnections.{Running, channel_of, with_channel_in, with_running, with_channel, PutsChannel}
use Rattle.channels.specs.contracts.running.RunningConnection.{the_row as connection_row}
use Rattle.channels.specs.contracts.connections.RunningConnections.{the_row as connections_row}

-- when the borrow `r` ends, channel `h` of the connection is what was last written to it
abbrev pub LendsChannelIn : MutBor Running → ℕ → Option (MutBor Open) → Fml
LendsChannelIn l h r = LendsIf connection_row channel_row l r (with_channel_in l.now h) l.now

-- when the borrow `r` ends, connection `c` is what was last written to it, and the others are unchanged
abbrev pub LendsConnection : MutBor (List (ℕ × Running)) → ℕ → Option (MutBor Running) → Fml
LendsConnection ls c r = LendsSo connections_row connection_row ls r (λ n w. n ≡ with_running ls.now c w) (λ n. n ≡ ls.now)

-- when the borrow `r` ends, channel `h` of connection `c` is what was last written to it, and all others are unchanged
abbrev pub LendsChannel : MutBor (List (ℕ × Running)) → ℕ → ℕ → Option (MutBor Open) → Fml
LendsChannel ls c h r = LendsSo connections_row channel_row ls r (λ n w. n ≡ with_channel ls.now c h w) (λ n. n ≡ ls.now)

-- writing to an open channel that was borrowed by its number changes that channel and no other
abbrev pub LentArePut : Type 0
LentArePut = (connections : List (ℕ × Running)) (c h : ℕ) (was ch : Open)
    → channel_of connections c h ≡ Some was → PutsChannel connections c h (Some ch) (with_channel connections c h ch)
