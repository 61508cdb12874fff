-- What the sockets know, as a wire (own).
use Rattle.std.specs.Prelude.{ℕ, Option, Some, None, option_map}
use Rattle.std.specs.Duration.{as_nanos}
use Rattle.serving.specs.Wire
use Rattle.serving.specs.Wire.{Traffic}
use Rattle.sockets.specs.Counts.{traffic_with}
use Rattle.sockets.specs.declared.counts.Totals.{Totals}
use Rattle.sockets.specs.declared.sockets.Sockets.{Sockets}

-- what the sockets `s` know: failures, names and totals; no calls
abbrev pub traffic_of : Sockets → Traffic
traffic_of s = traffic_with s.failures s.given s.counts.items

-- how many nanoseconds a socket may stay while its connection is not running, if there is a clock
abbrev pub patience_of : Sockets → Option ℕ
patience_of s = option_map (λ clock. as_nanos s.watch.patience) s.watch.clock

-- `Totals` of this crate, as the `Totals` of a wire
abbrev pub seen : Option Totals → Option Wire.Totals
seen None = None
seen (Some t) = Some (record { got = t.got; taken = t.taken })
