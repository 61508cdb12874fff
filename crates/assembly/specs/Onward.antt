-- What `Stream::next` must return.
use Rattle.std.specs.Prelude.{◌+◌, ◌≤◌, ℕ, List, length, Bool, true, false, Option, Some, None, Result, Ok, Err, ⊤}
use Rattle.model.specs.Commands.{Stream, Yields, Ends, GoesOn, IsCommand}
use Rattle.model.specs.declared.events.Command.{Command}
use Rattle.assembly.specs.Front.{HasFront}
use Rattle.assembly.specs.Held.{stream}
use Rattle.assembly.specs.Pending.{AreSpelledSoFar}
use Rattle.assembly.specs.declared.contents.Awaited.{Awaited}
use Rattle.assembly.specs.declared.faults.Fault.{Fault}
use Rattle.assembly.specs.declared.faults.Fault.TheVariants.{Broken, Memory}

-- whether the frame just taken completed a command
abbrev pub has_command : Result (Option Command) Fault → Bool
has_command (Ok None) = false
has_command (Ok (Some c)) = true
has_command (Err e) = false

-- no command is complete: the stream ends as `end` says, before and after, and what is still to come has not changed
pub record Stops (old : Stream) (end : Option ℕ) (new : Stream) : Type 0 where
  pub same : GoesOn old new
  pub ends : Ends old end
  pub still : Ends new end

-- `c` was the next command, its method can be encoded and its content isn't too large, and at least eight bytes were read
pub record GivesCommand (old : Stream) (c : Command) (new : Stream) : Type 0 where
  pub next : Yields old c new
  pub command : IsCommand c
  pub shorter : length new.unread + 8 ≤ length old.unread

-- the result and the new stream are correct; an allocation fails only if there was something to read, and then the same commands are still to come
abbrev pub YieldsNext : Stream → Result (Option Command) Fault → Stream → Type 0
YieldsNext old (Ok (Some c)) new = GivesCommand old c new
YieldsNext old (Ok None) new = Stops old None new
YieldsNext old (Err (Broken code)) new = Stops old (Some code) new
YieldsNext old (Err Memory) new = GoesOn old new × HasFront old

-- `YieldsNext` of a stream whose first eight bytes were read, by what its channels have begun and its unread bytes, before and after
abbrev pub YieldsCommand : ℕ → Bool → List Awaited → List ℕ → Result (Option Command) Fault → List Awaited → List ℕ → Type 0
YieldsCommand max keeps old unread result new unread' =
    YieldsNext (stream false max keeps old unread) result (stream false max keeps new unread')

-- ---- faults

-- the reply code of the fault that the result reports, if any
abbrev pub broken_by : Result (Option Command) Fault → Option ℕ
broken_by (Err (Broken code)) = Some code
broken_by answer = None

-- if a fault is recorded, the stream ends by it
abbrev pub IsBrokenBy : Option ℕ → Stream → Type 0
IsBrokenBy None s = ⊤
IsBrokenBy (Some code) s = Ends s (Some code)

-- a frame may have at least 4,096 bytes, what the channels have begun can be encoded again, and the stream ends by the fault that is recorded, if any
abbrev pub IsStreamSound : Bool → ℕ → Bool → List Awaited → List ℕ → Option ℕ → Type 0
IsStreamSound is_new max keeps contents unread fault =
    (4096 ≤ max) × AreSpelledSoFar contents × IsBrokenBy fault (stream is_new max keeps contents unread)
