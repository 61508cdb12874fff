-- A law that holds for all payloads of method frames.
use Rattle.std.specs.Prelude.{◌≡◌, ℕ, List, Result}
use Rattle.model.specs.Grammar.{SaysMethod}
use Rattle.model.specs.declared.methods.Method.{Method}

-- a payload means at most one thing: one method, or one reply code
abbrev pub OneMethod : Type 0
OneMethod = (payload : List ℕ) (r q : Result Method ℕ) → SaysMethod payload r → SaysMethod payload q → r ≡ q
