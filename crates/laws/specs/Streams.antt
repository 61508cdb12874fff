-- The commands that a stream yields: the first eight bytes before all frames, and the same in whichever pieces its bytes come.
use Rattle.std.specs.Prelude.{◌≡◌, ◌<◌, ℕ, List, [], ◌∷◌, ◌++◌, length, Bool, true, false, Option, Some, None}
use Rattle.model.specs.Words.{Text}
use Rattle.model.specs.Commands.{Stream, TakesFirst, Yields, Ends, GoesOn, Commands, heard, with_max, keeping}
use Rattle.model.specs.declared.events.Command.{Command}
use Rattle.model.specs.declared.events.Command.TheVariants.{Head}

-- ---- pieces

-- The stream yields these commands, one after another, and `last` is the stream after them.
abbrev pub YieldsAll : Stream → List Command → Stream → Type 0
YieldsAll s [] last = last ≡ s
YieldsAll s (c ∷ cs) last = (next : Stream) × Yields s c next × YieldsAll next cs last

-- The commands that were yielded before more bytes came are the first of those that all bytes yield.
abbrev pub CuttingDoesNotMatter : Type 0
CuttingDoesNotMatter = (s last : Stream) (done rest : List Command) (more : List ℕ) (end : Option ℕ)
    → YieldsAll s done last → Commands (heard last more) rest end → Commands (heard s more) (done ++ rest) end

-- A command, the largest frame that is agreed on once it is performed, and whether contents are kept then.
pub record CommandUnder : Type 0 where
  pub command : Command
  pub frame_max : ℕ
  pub keeps : Bool

-- The stream yields these commands, one after another, each read under what was agreed on before it, and `last` is the stream after them.
abbrev pub YieldsTuned : Stream → List CommandUnder → Stream → Type 0
YieldsTuned s [] last = last ≡ s
YieldsTuned s (p ∷ ps) last = (next : Stream) × Yields s p.command next × YieldsTuned (keeping p.keeps (with_max p.frame_max next)) ps last

-- A stream that yields the commands `done` and leaves `last` yields the same with `more` bytes appended, whatever was agreed on
-- meanwhile, and leaves `last` with these bytes appended.
abbrev pub TuningDoesNotMatter : Type 0
TuningDoesNotMatter = (s last : Stream) (done : List CommandUnder) (more : List ℕ) → YieldsTuned s done last → YieldsTuned (heard s more) done (heard last more)

-- A fault of a stream stays, whatever bytes follow.
abbrev pub FaultsStay : Type 0
FaultsStay = (s : Stream) (code : ℕ) (more : List ℕ) → Ends s (Some code) → Ends (heard s more) (Some code)

-- Frames that complete no command are put together in the same way, whatever bytes follow.
abbrev pub GoingOnStays : Type 0
GoingOnStays = (s next : Stream) (more : List ℕ) → GoesOn s next → GoesOn (heard s more) (heard next more)

-- ---- the first eight bytes

-- Whether the command is the first eight bytes, and not one of frames.
abbrev pub is_head : Command → Bool
is_head (Head bytes) = true
is_head c = false

-- The command is the first eight bytes of the stream `s`, and `next` awaits frames.
pub record ReadsHead (s : Stream) (c : Command) (next : Stream) : Type 0 where
  pub bytes : Text
  pub is : c ≡ Head bytes
  pub takes : TakesFirst s bytes next

-- The command is made of frames, and `next` awaits frames.
pub record ReadsFrames (c : Command) (next : Stream) : Type 0 where
  pub framed : is_head c ≡ false
  pub begun : next.is_new ≡ false

-- If the first eight bytes are awaited, they are read before all frames; afterwards they are never read again.
pub record FirstBytesComeFirst : Type 0 where
  -- If they are awaited, they are the next command.
  pub head : (s next : Stream) (c : Command) → s.is_new ≡ true → Yields s c next → ReadsHead s c next
  -- If they are awaited and are not the next command, fewer than eight bytes are there, which is no fault.
  pub awaits : (s : Stream) (end : Option ℕ) → s.is_new ≡ true → Ends s end → (end ≡ None) × (length s.unread < 8)
  -- If they are not awaited, each command is made of frames.
  pub frames : (s next : Stream) (c : Command) → s.is_new ≡ false → Yields s c next → ReadsFrames c next
