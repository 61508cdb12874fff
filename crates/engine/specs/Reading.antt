-- The next event in a connection's bytes: a command or a fault.
use Rattle.std.specs.Prelude.{◌≡◌, ◌⊎◌, ◌+◌, ◌<◌, ℕ, length, Option, Some, None}
use Rattle.model.specs.Commands.{Stream, Ends, GoesOn, IsCommand}
use Rattle.model.specs.Arrivals.{Reads, SameToCome, event_of}
use Rattle.model.specs.declared.contents.Content.{Content}
use Rattle.model.specs.declared.methods.Method.{Method}
use Rattle.model.specs.declared.methods.Method.TheVariants.{BasicPublish}
use Rattle.model.specs.declared.events.Command.{Command}
use Rattle.model.specs.declared.events.Command.TheVariants.{Head, Plain, Full, TooLarge}
use Rattle.model.specs.declared.events.Event.{Event}
use Rattle.model.specs.declared.events.Event.TheVariants as event
use Rattle.assembly.specs.Front.{HasFront}

-- ---- the pending command, as an event

-- a command with a content: a publish has one, any other method ignores it
abbrev pub with_content : ℕ → Content → Method → Command
with_content h content (BasicPublish p) = Full h p content
with_content h content m = Plain h m

-- the command with this method and this content
abbrev pub command_of : ℕ → Method → Option Content → Command
command_of h m None = Plain h m
command_of h m (Some content) = with_content h content m

-- the pending command, if any
abbrev pub kept_of : Option Event → Option Command
kept_of None = None
kept_of (Some (event.First c bytes)) = Some (Head bytes)
kept_of (Some (event.Command c h m content)) = Some (command_of h m content)
kept_of (Some (event.TooLarge c h)) = Some (TooLarge h)
kept_of (Some e) = None

-- The event is a command of connection c that a stream can yield.
pub record IsEventMade (c : ℕ) (e : Event) : Type 0 where
  pub command : Command
  pub made : e ≡ event_of c command
  pub said : IsCommand command

-- the pending event, if any, is a command of connection c, whose stream has not broken
abbrev pub IsKeptEvent : ℕ → Option Event → (fault : Option ℕ) → Type 0
IsKeptEvent c None fault = Unit {0}
IsKeptEvent c (Some e) fault = IsEventMade c e × (fault ≡ None)

-- ---- what comes

-- how much is left to read and to perform: each unread byte and a pending command count one
abbrev pub to_read : Option Command → Stream → ℕ
to_read None s = length s.unread
to_read (Some m) s = length s.unread + 1

-- there is something to perform or to read: a pending command, the first eight bytes, a whole frame or a broken one
abbrev pub HasMore : Option Command → Stream → Type 0
HasMore None s = HasFront s
HasMore (Some m) s = Unit {0}

-- The next event is a command: the pending one, or one read from a stream that has not broken.
pub record HasCommand (c : ℕ) (kept : Option Event) (old : Stream) (e : Event) (broke : Option ℕ) (new : Stream) : Type 0 where
  pub made : IsEventMade c e
  pub whole : broke ≡ None
  pub read : Reads c (kept_of kept) old e new
  pub same : SameToCome (kept_of kept) old (kept_of (Some e)) new
  pub fewer : to_read None new < to_read (kept_of kept) old

-- The next event is a fault. The stream yields it again when it is asked again.
pub record HasFault (c : ℕ) (kept : Option Event) (old : Stream) (e : Event) (new : Stream) : Type 0 where
  pub code : ℕ
  pub is : e ≡ event.Fault c code
  pub none_kept : kept ≡ None
  pub ends : Ends old (Some code)
  pub on : GoesOn old new

-- the next event of connection c, or `None` if its bytes don't complete one
abbrev pub ComesNext : ℕ → Option Event → Stream → Option Event → (fault : Option ℕ) → Stream → Type 0
ComesNext c kept old (Some e) broke new = HasCommand c kept old e broke new ⊎ HasFault c kept old e new
ComesNext c kept old None broke new = (kept ≡ None) × Ends old None × GoesOn old new

-- what stays pending after an allocation failure: a command; a fault is dropped, since the stream yields it again
abbrev pub kept_for : Option Event → Option Event
kept_for (Some (event.Fault c code)) = None
kept_for kept = kept
