-- What handling one frame does.
use Rattle.std.specs.Prelude.{◌≡◌, ◌==◌, ℕ, Bool, List, Option, Some, None, Result, Ok, Err, MatchBool, MatchResult}
use Rattle.model.specs.Broker.{with_one}
use Rattle.model.specs.Commands
use Rattle.model.specs.Commands.{Taken, Goes_on, Makes, Breaks, IsCommand, TakesOn, TakesPayload, awaited, taken_header}
use Rattle.model.specs.Frames.{Frame}
use Rattle.model.specs.Headers.{Header, SaysHeader}
use Rattle.model.specs.declared.events.Command.{Command}
use Rattle.model.specs.declared.methods.Publish.{Publish}
use Rattle.assembly.specs.declared.contents.Awaited.{Awaited}
use Rattle.assembly.specs.declared.contents.Awaited.TheVariants.{WantsHeader}
use Rattle.assembly.specs.declared.faults.Fault.{Fault}
use Rattle.assembly.specs.Faults.{IsFault}
use Rattle.assembly.specs.Pending.{pending_at, pending_of}

-- a frame with this effect was handled on a channel that awaited `old` and now awaits `new`; an error changes nothing
abbrev pub TakesEffect : (Taken → Type 0) → Commands.Pending → Result (Option Command) Fault → Commands.Pending → Type 0
TakesEffect Effect old (Ok None) new = Effect (Goes_on new)
TakesEffect Effect old (Ok (Some c)) new = Effect (Makes c) × IsCommand c × (new ≡ Commands.Nothing)
TakesEffect Effect old (Err e) new = IsFault (λ code. Effect (Breaks code)) e × (new ≡ old)

-- a frame of the awaited type was handled; `keeps` is whether contents are kept
abbrev pub TakesFrame : Bool → Frame → Awaited → Result (Option Command) Fault → Awaited → Type 0
TakesFrame keeps frame old result new = TakesEffect (TakesPayload keeps (pending_of old) frame) (pending_of old) result (pending_of new)

-- what a frame does on a channel that awaits `p`: what its payload does if its type is the awaited one, and otherwise it breaks the stream with 505
abbrev pub TakesAwaited : Bool → Commands.Pending → Frame → Taken → Type 0
TakesAwaited keeps p frame taken = MatchBool (frame.kind == awaited p) (TakesPayload keeps p frame taken) (taken ≡ Breaks 505)

-- a frame was handled whose type may be another than the awaited one
abbrev pub TakesIfAwaited : Bool → Frame → Awaited → Result (Option Command) Fault → Awaited → Type 0
TakesIfAwaited keeps frame old result new =
    TakesEffect (λ taken. TakesAwaited keeps (pending_of old) frame taken) (pending_of old) result (pending_of new)

-- the payload of a header declares the body size, or the fault is one with which the payload is refused
abbrev pub DeclaresSize : List ℕ → Result ℕ Fault → Type 0
DeclaresSize payload result = MatchResult result (λ size. (h : Header) × SaysHeader payload (Ok h) × (size ≡ h.size))
    (λ fault. IsFault (λ code. SaysHeader payload (Err code)) fault)

-- the header of a content that isn't too large was handled; `keeps` is whether contents are kept
abbrev pub TakesHeader : Bool → Frame → Awaited → Result (Option Command) Fault → Awaited → Type 0
TakesHeader keeps frame old result new =
    (p : Publish) → old ≡ WantsHeader p
    → TakesEffect (λ t. (r : Result Header ℕ) × SaysHeader frame.payload r × (t ≡ taken_header keeps frame.channel p r))
    (Commands.Wants_header p) result (pending_of new)

-- a frame with this effect was handled on `channel`; the other channels await what they awaited before, and an error changes nothing
abbrev pub DoesAt : (Taken → Type 0) → ℕ → (ℕ → Commands.Pending) → Result (Option Command) Fault → (ℕ → Commands.Pending) → Type 0
DoesAt Effect channel old (Ok None) new = (p : Commands.Pending) × Effect (Goes_on p) × (new ≡ with_one old channel p)
DoesAt Effect channel old (Ok (Some c)) new = Effect (Makes c) × IsCommand c × (new ≡ with_one old channel Commands.Nothing)
DoesAt Effect channel old (Err e) new = IsFault (λ code. Effect (Breaks code)) e × (new ≡ old)

-- a frame was handled on its channel, heartbeats and frames on a wrong channel included
abbrev pub TakesWhole : Bool → Frame → List Awaited → Result (Option Command) Fault → List Awaited → Type 0
TakesWhole keeps frame old result new =
    DoesAt (TakesOn keeps (pending_at old frame.channel) frame) frame.channel (pending_at old) result (pending_at new)

-- a frame other than a heartbeat was handled on `channel`, which may have it
abbrev pub TakesAt : Bool → ℕ → Frame → List Awaited → Result (Option Command) Fault → List Awaited → Type 0
TakesAt keeps channel frame old result new =
    DoesAt (λ taken. TakesAwaited keeps (pending_at old channel) frame taken) channel (pending_at old) result (pending_at new)
