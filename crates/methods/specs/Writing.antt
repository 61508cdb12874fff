-- The results of writing a method. Source: AMQP 0-9-1, section 4.2.4, "Method Payloads", and its XML.
use Rattle.std.specs.Prelude.{◌≡◌, ℕ, length, Option, Some, None, ⊤}
use Rattle.model.specs.Grammar.{method_bytes, IsMethod}
use Rattle.model.specs.declared.methods.Method.{Method}
use Rattle.methods.specs.declared.refusals.UnwrittenMethod.{UnwrittenMethod}
use Rattle.methods.specs.declared.refusals.UnwrittenMethod.TheVariants.{SyntaxError, Memory}

-- the error is correct: a syntax error only if the method can't be encoded
abbrev pub MethodRefused : Method → UnwrittenMethod → Type 0
MethodRefused m SyntaxError = IsMethod m → ⊥
MethodRefused m Memory = ⊤

-- the result is the method's encoded length, or `None` if the method can't be encoded
abbrev pub CountsMethod : Method → Option ℕ → Type 0
CountsMethod m (Some n) = IsMethod m × (n ≡ length (method_bytes m))
CountsMethod m None = IsMethod m → ⊥
