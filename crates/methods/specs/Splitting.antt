-- What splitting an argument off the front of a method's bytes means. Source: AMQP 0-9-1, section 4.2.5, "Data Types".
use Rattle.std.specs.Prelude.{◌≡◌, ℕ, List, [], Some, None, Result, Ok, Err, ⊤}
use Rattle.model.specs.Grammar.{Argument}
use Rattle.field_table.specs.Arguments.{Kind, Front, argument_at, arguments_at}
use Rattle.methods.specs.declared.refusals.BadMethod.{BadMethod}
use Rattle.methods.specs.declared.refusals.BadMethod.TheVariants.{FrameError, SyntaxError, CommandInvalid, NotImplemented, Memory}

-- the error is right: a syntax error only if the argument is not at the front; an allocation may always fail
abbrev pub LacksArgument : Front → BadMethod → Type 0
LacksArgument front FrameError = ⊥
LacksArgument front SyntaxError = front ≡ None
LacksArgument front CommandInvalid = ⊥
LacksArgument front NotImplemented = ⊥
LacksArgument front Memory = ⊤

-- the argument of kind `k` at the front of `old` was returned, and `new` is after it, or the error is right
abbrev pub Splits : {X : Type 0} → (X → Argument) → Kind → List ℕ → List ℕ → Result X BadMethod → Type 0
Splits made k old new (Ok x) = argument_at k old ≡ Some (made x, new)
Splits made k old new (Err e) = LacksArgument (argument_at k old) e

-- nothing is left, or the error says that something is
abbrev pub Ends : List ℕ → Result ⊤ BadMethod → Type 0
Ends rest (Ok _) = arguments_at [] rest ≡ Some []
Ends rest (Err e) = (arguments_at [] rest ≡ None) × (e ≡ SyntaxError)
