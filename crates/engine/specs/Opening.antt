-- The contracts of opening a connection.
use Rattle.std.specs.Prelude.{◌≡◌, ◌+◌, ◌<◌, ◌≤◌, ℕ, List, length, true, false, nat_lt, Some, Result, Ok, Err}
use Rattle.model.specs.Commands.{Stream, opened_stream, running_stream}
use Rattle.model.specs.Arrivals.{World, Same, count_open, can_open}
use Rattle.model.specs.declared.events.Event.{Event}
use Rattle.model.specs.declared.events.Event.TheVariants as event
use Rattle.runs.specs.Opened.{IsOpened}
use Rattle.engine.specs.declared.engines.Refused.{Refused}
use Rattle.engine.specs.declared.engines.Refused.TheVariants.{Full, Spent, Memory}
use Rattle.engine.specs.declared.connection.Connection.{Connection}

-- the number of the next connection, if `given` numbers were given and `ls` are the connections that are not gone; or why it can't be opened
abbrev pub Numbers : ℕ → List Connection → Result ℕ Refused → Type 0
Numbers given ls (Ok n) = (n ≡ given + 1) × (length ls < 1024) × (given < 18446744073709551615)
Numbers given ls (Err Full) = 1024 ≤ length ls
Numbers given ls (Err Spent) = (length ls < 1024) × (18446744073709551615 ≤ given)
Numbers given ls (Err Memory) = (length ls < 1024) × (given < 18446744073709551615)

-- The event `e` opened the connection with the next number, whose stream is `s`. Or nothing has changed, for one of three reasons: there are 1,024
-- connections that are not gone, the last number was given, or an allocation failed.
abbrev pub OpenedBy : Event → Stream → World → Result ℕ Refused → World → Type 0
OpenedBy e s old (Ok n) new = IsOpened e s old (Some n) new
OpenedBy e s old (Err Full) new = (nat_lt (count_open old old.given) 1024 ≡ false) × Same old new
OpenedBy e s old (Err Spent) new = (nat_lt (count_open old old.given) 1024 ≡ true) × (nat_lt old.given 18446744073709551615 ≡ false) × Same old new
OpenedBy e s old (Err Memory) new = (can_open old ≡ true) × Same old new

-- `OpenedBy` for a connection that has sent no byte yet
abbrev pub OpenedNew : World → Result ℕ Refused → World → Type 0
OpenedNew old r new = OpenedBy (event.Open (old.given + 1)) opened_stream old r new

-- `OpenedBy` for a connection that is running at once, with channels 1 to `k` open
abbrev pub OpenedReady : World → ℕ → Result ℕ Refused → World → Type 0
OpenedReady old k r new = OpenedBy (event.Running (old.given + 1) 255 k) running_stream old r new
