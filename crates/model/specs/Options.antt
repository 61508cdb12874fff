-- How calculations that return options are chained (own).
use Rattle.std.specs.Prelude.{Option, option_and_then}

-- `f` applied to the value of `o`, or `None` if `o` has no value; the meaning of `←`.
infixl 10 ◌>>=◌
abbrev pub ◌>>=◌ : {A B : Type 0} → Option A → (A → Option B) → Option B
o >>= f = option_and_then f o
