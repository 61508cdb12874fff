-- The knowledge of a wire of which one call may fail (own).
use Rattle.std.specs.Prelude.{◌+◌, Bool, None, if◌then◌else◌}
use Rattle.serving.specs.Wire.{Traffic}

-- what a wire of which one call may fail knows, over a wire below that knows `t`: one more failure if that call has `failed`;
-- and no list of calls, since the wire below never saw that call
abbrev pub traffic_failing : Traffic → Bool → Traffic
traffic_failing t failed = record { calls = None; failures = t.failures + (if failed then 1 else 0); is_given = t.is_given; totals = λ s. None }
