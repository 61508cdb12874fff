-- The calls that a log has (own).
use Rattle.std.specs.Prelude.{ℕ, List, nat_lt, map, take, Option, Some, None, if◌then◌else◌}
use Rattle.serving.specs.Wire.{Call, Traffic, Accepted, Not_accepted, Accept_failed, Got, Nothing_got, Read_ended}
use Rattle.serving.specs.Wire.{Read_failed, Took, Nothing_taken, Write_failed, Closed, Welcomed, Farewell, Rested}
use Rattle.memory_wire.specs.declared.logs.Log.{Log}
use Rattle.memory_wire.specs.declared.logs.Logged.{Logged}
use Rattle.memory_wire.specs.declared.logs.Logged.TheVariants as logged

-- the call of a log entry
abbrev pub call_of : Logged → Call
call_of (logged.Accepted s) = Accepted s
call_of logged.NotAccepted = Not_accepted
call_of logged.AcceptFailed = Accept_failed
call_of (logged.Got s room bytes) = Got s room bytes.items
call_of (logged.NothingGot s room) = Nothing_got s room
call_of (logged.Ended s room) = Read_ended s room
call_of (logged.ReadFailed s room) = Read_failed s room
call_of (logged.Took s offered count) = Took s offered.items (take count offered.items)
call_of (logged.NothingTaken s offered) = Nothing_taken s offered.items
call_of (logged.WriteFailed s offered) = Write_failed s offered.items
call_of (logged.Closed s) = Closed s
call_of (logged.Welcomed s) = Welcomed s
call_of (logged.Farewell s) = Farewell s
call_of logged.Rested = Rested

-- what a wire knows that logged `calls` and has accepted `come` sockets, which are named by their indices
abbrev pub traffic_with : Option (List Call) → ℕ → Traffic
traffic_with calls come = record { calls = calls; failures = 0; is_given = λ s. nat_lt s come; totals = λ s. None }

-- all calls, in order; `None` if the log isn't whole
abbrev pub logged_calls : Log → Option (List Call)
logged_calls l = if l.is_whole then Some (map call_of l.calls.items) else None
