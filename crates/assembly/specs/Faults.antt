-- Which faults are correct.
use Rattle.std.specs.Prelude.{ℕ, List, Err, ⊤}
use Rattle.model.specs.Grammar.{SaysMethod}
use Rattle.model.specs.Headers.{SaysSize, SaysHeader}
use Rattle.methods.specs.declared.refusals.BadMethod as methods_refusal
use Rattle.headers.specs.declared.contents.BadHeader as headers_refusal
use Rattle.methods.specs.Reading as methods
use Rattle.headers.specs.Reading as headers
use Rattle.assembly.specs.declared.faults.Fault.{Fault}
use Rattle.assembly.specs.declared.faults.Fault.TheVariants.{Broken, Memory}

-- the fault's reply code has the property `Why`; an allocation failure needs no reason
abbrev pub IsFault : (ℕ → Type 0) → Fault → Type 0
IsFault Why (Broken code) = Why code
IsFault Why Memory = ⊤

-- if the reader of methods is right to refuse the payload by `refusal`, the fault is right:
-- its reply code, if any, is one with which the payload is refused
abbrev pub RefusesMethod : List ℕ → methods_refusal.BadMethod → Fault → Type 0
RefusesMethod payload refusal fault = methods.MethodIsRefused payload refusal → IsFault (λ code. SaysMethod payload (Err code)) fault

-- if the reader of a header's size is right to refuse the payload by `refusal`, the fault is right:
-- its reply code, if any, is one with which the payload is refused
abbrev pub RefusesSize : List ℕ → headers_refusal.BadHeader → Fault → Type 0
RefusesSize payload refusal fault = headers.ReturnsSize payload (Err refusal) → IsFault (λ code. SaysSize payload (Err code)) fault

-- if the reader of headers is right to refuse the payload by `refusal`, the fault is right: its reply code, if any, is one by which the payload is refused
abbrev pub RefusesHeader : List ℕ → headers_refusal.BadHeader → Fault → Type 0
RefusesHeader payload refusal fault = headers.HeaderIsRefused payload refusal → IsFault (λ code. SaysHeader payload (Err code)) fault
