-- The causes one by one, in their order.
use Rattle.json_file.proofs.Names.{◌≡◌, Bool, true, false, ℕ, ◌+◌, ◌<◌, ◌==◌, inl, inr, refl, sym, ap, ◌∙◌, subst, arith, FileCause, NotJson, Malformed, OtherVhost, Repeated, Absent, OtherType, Unsupported, NoOverflow, Worded, TooMany, NoExchange, OtherPermission, OtherHash, Memory, cause_number, AllClearBelow, IsLeastCause}
use Rattle.std.proofs.lemmas.Bool.Decides.{eqb_tells}
use Rattle.std.specs.Prelude.{◌⊎◌, Decides, if◌then◌else◌}

-- the cause of a number
abbrev numbered : ℕ → FileCause
numbered n = if n == 1 then NotJson else if n == 2 then Malformed else if n == 3 then OtherVhost else if n == 4 then Repeated else if n == 5 then Absent else if n == 6 then OtherType
    else if n == 7 then Unsupported else if n == 8 then NoOverflow else if n == 9 then Worded else if n == 10 then TooMany else if n == 11 then NoExchange else if n == 12 then OtherPermission
    else if n == 13 then OtherHash else Memory

again : (b : FileCause) → numbered (cause_number b) ≡ b
again NotJson = refl
again _ = refl

number_same : (a b : FileCause) → cause_number a ≡ cause_number b → a ≡ b
number_same a b e = sym (again a) ∙ ap numbered e ∙ again b

split : (a n : ℕ) → a < n + 1 → (a < n) ⊎ (a ≡ n)
split a n h = elim (eqb_tells a n) [ inl e ↦ inr e.1 | inr e ↦ inl (let ne = e.1 in omega (arith, h, ne)) ]

pub all_numbered : (b : FileCause) → cause_number b < 15
all_numbered NotJson = omega arith
all_numbered _ = omega arith

-- a cause that stands where none below it does
pub least : (Clear : FileCause → Type 0) (bad : FileCause) (b : Bool) → AllClearBelow Clear (cause_number bad) → Decides b (Clear bad) → b ≡ false → IsLeastCause Clear bad
least Clear bad b below d e = record { below = below; stands = λ h. (let z : b ≡ true = d.1 h in cc) }

-- one cause more
pub below_next : (Clear : FileCause → Type 0) (bad : FileCause) → AllClearBelow Clear (cause_number bad) → Clear bad → AllClearBelow Clear (cause_number bad + 1)
below_next Clear bad below clear other h = elim (split (cause_number other) (cause_number bad) h) [
  | inl l ↦ below other l
  | inr e ↦ subst Clear (sym (number_same other bad e)) clear
]
