-- Round-robin orders: who comes before whom (own).
use Rattle.std.specs.Prelude.{◌<◌, ◌+◌, ◌-◌, ◌==◌, ◌&&◌, ℕ, List, [], ◌∷◌, Bool, not, if◌then◌else◌, nat_lt}
use Rattle.commands.specs.declared.picks.Pick.{Pick}

-- the two are the same consumer
abbrev pub is_consumer : Pick → Pick → Bool
is_consumer p q = (p.connection == q.connection) && ((p.channel == q.channel) && (p.number == q.number))

-- `q` is another consumer than `p`
abbrev pub is_other : Pick → Pick → Bool
is_other p q = not (is_consumer p q)

-- of `count` indices, how many come before `at` in the order from `next` on and then from the front
abbrev pub ahead : ℕ → ℕ → ℕ → ℕ
ahead count next at = if nat_lt at next then (count - next) + at else at - next

-- index `at` comes before index `to` in the order from `next` on and then from the front
abbrev pub IsPassed : ℕ → ℕ → ℕ → ℕ → Type 0
IsPassed count next to at = (at < count) × (ahead count next at < ahead count next to)

-- how many entries are before the first that passes `test`
abbrev pub count_before : {X : Type 0} → (X → Bool) → List X → ℕ
count_before test [] = 0
count_before test (x ∷ xs) = if test x then 0 else 1 + count_before test xs
