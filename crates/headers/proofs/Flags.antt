-- Properties that are read are flagged and spelled so, and those that are spelled so are read.
use Rattle.headers.proofs.Names.{◌≡◌, ℕ, zero, suc, ◌+◌, ◌*◌, ◌/◌, ◌%◌, ◌^◌, ◌<◌, ◌≤◌, Bool, true, false, cond, eqb, List, [], ◌∷◌, ◌++◌, length, Option, Some, None, refl, sym, ap, subst, ◌∙◌, append_assoc, arith, is_some, AllByRecursion, flat_map, mod-pow-add, div-mul-add, mod-mul-add, pow-suc, mod-lt, Argument, argument, flags, value_of, Kind, kind_of, argument_at, IsSized, ◌>>=◌, IsBytes, IsKind, bind_some, argument_takes, argument_again, Row, has_flag, option_at, options_at}

-- ---- one property

abbrev pub IsSizedOption : Option Argument → Type 0
IsSizedOption None = Unit {0}
IsSizedOption (Some a) = IsSized a

abbrev pub HasKind : Kind → Option Argument → Type 0
HasKind k None = Unit {0}
HasKind k (Some a) = kind_of a ≡ k

-- a property that may be there was taken from the front
pub record TakesOption (is : Bool) (bytes : List ℕ) (x : Option Argument × List ℕ) : Type 0 where
  pub parts : bytes ≡ value_of x.0 ++ x.1
  pub rest_fits : IsBytes x.1
  pub fits : IsSizedOption x.0
  pub flagged : is_some x.0 ≡ is

abbrev found : Option Argument → List ℕ → Option Argument × List ℕ
found o rest = (o, rest)

option_takes : (is : Bool) (k : Kind) (bytes : List ℕ) (x : Option Argument × List ℕ) → IsKind k → IsBytes bytes → option_at is k bytes ≡ Some x → TakesOption is bytes x
option_takes true k bytes x small are e =
    let b = bind_some (argument_at k bytes) (λ y. Some (Some y.0, y.1)) x e in
    let t = argument_takes k bytes b.0 small are b.1 in
    let end : Some (found (Some b.0.0) b.0.1) ≡ Some x = b.2 in
    let same : found (Some b.0.0) b.0.1 ≡ x = cc in
    subst (λ (y : Option Argument × List ℕ). TakesOption true bytes y) same (record { parts = t.parts; rest_fits = t.rest_fits; fits = t.fits; flagged = refl })
option_takes false k bytes x small are e =
    let same : found None bytes ≡ x = cc in
    subst (λ (y : Option Argument × List ℕ). TakesOption false bytes y) same (record { parts = refl; rest_fits = are; fits = tt; flagged = refl })

option_again : (o : Option Argument) (k : Kind) (rest : List ℕ) → HasKind k o → IsSizedOption o → option_at (is_some o) k (value_of o ++ rest) ≡ Some (o, rest)
option_again None k rest kind fits = refl
option_again (Some a) k rest kind fits =
    ap (λ (j : Kind). argument_at j (argument a ++ rest) >>= λ y. Some (Some y.0, y.1)) (sym kind)
    ∙ ap (λ z. z >>= λ y. Some (Some y.0, y.1)) (argument_again a rest fits)

-- ---- several properties

-- the bits are those that flags give, from the highest down to bit 2
abbrev pub Descend : List Row → Type 0
Descend [] = Unit {0}
Descend (r ∷ rs) = (r.bit ≡ length rs + 2) × Descend rs

abbrev pub AreKinds : List Row → Type 0
AreKinds [] = Unit {0}
AreKinds (r ∷ rs) = IsKind r.kind × AreKinds rs

abbrev pub HaveKinds : List Row → List (Option Argument) → Type 0
HaveKinds [] [] = Unit {0}
HaveKinds (r ∷ rs) (o ∷ os) = HasKind r.kind o × HaveKinds rs os
HaveKinds [] (o ∷ os) = ⊥
HaveKinds (r ∷ rs) [] = ⊥

-- these properties were taken from the front, and flagged
pub record TakesOptions (f : ℕ) (rs : List Row) (bytes : List ℕ) (y : List (Option Argument) × List ℕ) : Type 0 where
  pub parts : bytes ≡ flat_map value_of y.0 ++ y.1
  pub rest_fits : IsBytes y.1
  pub fits : AllByRecursion IsSizedOption y.0
  pub len : length y.0 ≡ length rs
  pub flagged : flags y.0 + f % 4 ≡ f % 2 ^ (length rs + 2)

number_of : (b : Bool) (n : ℕ) → n < 2 → eqb n 1 ≡ b → cond b 1 0 ≡ n
number_of true zero lt e = absurd (cc)
number_of true (suc zero) lt e = refl
number_of true (suc (suc n)) lt e = absurd (omega arith)
number_of false zero lt e = refl
number_of false (suc zero) lt e = absurd (cc)
number_of false (suc (suc n)) lt e = absurd (omega arith)

-- one bit more
split_flags : (f n : ℕ) → f % 2 ^ (n + 3) ≡ (f / 2 ^ (n + 2) % 2) * 2 ^ (n + 2) + f % 2 ^ (n + 2)
split_flags f n =
    let e : 1 + (n + 2) ≡ n + 3 = omega arith in
    subst (λ (i : ℕ). f % 2 ^ i ≡ (f / 2 ^ (n + 2) % 2) * 2 ^ (n + 2) + f % 2 ^ (n + 2)) e (mod-pow-add f 1 (n + 2))

pub options_take : (f : ℕ) (rs : List Row) (bytes : List ℕ) (y : List (Option Argument) × List ℕ) → Descend rs → AreKinds rs → IsBytes bytes → options_at f rs bytes ≡ Some y → TakesOptions f rs bytes y
options_take f [] bytes y down kinds are e =
    let nothing : List (Option Argument) × List ℕ = ([], bytes) in
    let same : nothing ≡ y = cc in
    subst (λ (z : List (Option Argument) × List ℕ). TakesOptions f [] bytes z) same (record { parts = refl; rest_fits = are; fits = tt; len = refl; flagged = omega arith })
options_take f (r ∷ rs) bytes y down kinds are e =
    let a = bind_some (option_at (has_flag f r.bit) r.kind bytes) (λ x. options_at f rs x.1 >>= λ z. Some (x.0 ∷ z.0, z.1)) y e in
    let x : Option Argument × List ℕ = a.0 in
    let t = option_takes (has_flag f r.bit) r.kind bytes x kinds.0 are a.1 in
    let b = bind_some (options_at f rs x.1) (λ z. Some (x.0 ∷ z.0, z.1)) y a.2 in
    let s : TakesOptions f rs x.1 b.0 = options_take f rs x.1 b.0 down.1 kinds.1 t.rest_fits b.1 in
    let all : List (Option Argument) × List ℕ = (x.0 ∷ b.0.0, b.0.1) in
    let end : Some all ≡ Some y = b.2 in
    let same : all ≡ y = cc in
    let n : ℕ = length rs in
    let bit : is_some x.0 ≡ eqb (f / 2 ^ (n + 2) % 2) 1 = t.flagged ∙ ap (λ (i : ℕ). has_flag f i) down.0 in
    let number : cond (is_some x.0) 1 0 ≡ f / 2 ^ (n + 2) % 2 = number_of (is_some x.0) (f / 2 ^ (n + 2) % 2) (omega arith) (sym bit) in
    let top : flags (x.0 ∷ b.0.0) ≡ (f / 2 ^ (n + 2) % 2) * 2 ^ (n + 2) + flags b.0.0 =
    ap (λ (i : ℕ). cond (is_some x.0) 1 0 * 2 ^ (i + 2) + flags b.0.0) s.len ∙ ap (λ (i : ℕ). i * 2 ^ (n + 2) + flags b.0.0) number in
    let width : suc n + 2 ≡ n + 3 = omega arith in
    let whole : flags (x.0 ∷ b.0.0) + f % 4 ≡ f % 2 ^ (suc n + 2) =
    ap (λ (i : ℕ). i + f % 4) top ∙ (let low = s.flagged in omega (arith, low)) ∙ sym (split_flags f n) ∙ ap (λ (i : ℕ). f % 2 ^ i) (sym width) in
    subst (λ (z : List (Option Argument) × List ℕ). TakesOptions f (r ∷ rs) bytes z) same (record {
      parts = t.parts ∙ ap (λ (z : List ℕ). value_of x.0 ++ z) s.parts ∙ sym (append_assoc (value_of x.0) (flat_map value_of b.0.0) b.0.1);
      rest_fits = s.rest_fits;
      fits = (t.fits, s.fits);
      len = ap (λ (i : ℕ). suc i) s.len;
      flagged = whole;
    })

-- ---- what flags there are

twice : (n : ℕ) → 2 ^ (suc n) ≡ 2 ^ n * 2
twice n = pow-suc 2 n

wider : (n : ℕ) → 2 ^ (suc n + 2) ≡ 2 ^ (n + 2) * 2
wider n = let e : suc (n + 2) ≡ suc n + 2 = omega arith in subst (λ (i : ℕ). 2 ^ i ≡ 2 ^ (n + 2) * 2) e (twice (n + 2))

some_below : (b : Bool) (w low : ℕ) → low + 4 ≤ w → cond b 1 0 * w + low + 4 ≤ w * 2
some_below true w low h = omega (arith, h)
some_below false w low h = omega (arith, h)

pub flags-below : (os : List (Option Argument)) → flags os + 4 ≤ 2 ^ (length os + 2)
flags-below [] = omega arith
flags-below (o ∷ os) =
    let low : flags os + 4 ≤ 2 ^ (length os + 2) = flags-below os in
    subst (λ (i : ℕ). flags (o ∷ os) + 4 ≤ i) (sym (wider (length os))) (some_below (is_some o) (2 ^ (length os + 2)) (flags os) low)

fours : (n : ℕ) → 2 ^ (n + 2) ≡ 2 ^ n * 4
fours n =
    let e : suc (suc n) ≡ n + 2 = omega arith in
    let both : 2 ^ suc (suc n) ≡ 2 ^ n * 4 = twice (suc n) ∙ ap (λ (i : ℕ). i * 2) (twice n) ∙ (let p : ℕ = 2 ^ n in let h : p * 2 * 2 ≡ p * 4 = omega arith in h) in
    subst (λ (i : ℕ). 2 ^ i ≡ 2 ^ n * 4) e both

four_more : (b : Bool) (p low : ℕ) → low % 4 ≡ 0 → (cond b 1 0 * (p * 4) + low) % 4 ≡ 0
four_more true p low h = omega (arith, h)
four_more false p low h = omega (arith, h)

pub flags-fours : (os : List (Option Argument)) → flags os % 4 ≡ 0
flags-fours [] = refl
flags-fours (o ∷ os) = subst (λ (i : ℕ). (cond (is_some o) 1 0 * i + flags os) % 4 ≡ 0) (sym (fours (length os))) (four_more (is_some o) (2 ^ length os) (flags os) (flags-fours os))

-- ---- properties that are spelled are read

same_len : (rs : List Row) (os : List (Option Argument)) → HaveKinds rs os → length os ≡ length rs
same_len [] [] h = refl
same_len [] (o ∷ os) h = absurd h
same_len (r ∷ rs) [] h = absurd h
same_len (r ∷ rs) (o ∷ os) h = ap (λ (i : ℕ). suc i) (same_len rs os h.1)

pub bit_is : (b : Bool) → eqb (cond b 1 0) 1 ≡ b
bit_is true = refl
bit_is false = refl

-- the same number, by its highest digit and what is below it
pub record Digits (f w c low : ℕ) : Type 0 where
  pub high : f / w % 2 ≡ c
  pub rest : f % w ≡ low

digits : (f w c low : ℕ) → low < w → f % w < w → (f / w % 2) * w + f % w ≡ c * w + low → Digits f w c low
digits f w c low lt under e = record {
  high = sym (div-mul-add (f / w % 2) w (f % w) under) ∙ ap (λ (i : ℕ). i / w) e ∙ div-mul-add c w low lt;
  rest = sym (mod-mul-add (f / w % 2) w (f % w) under) ∙ ap (λ (i : ℕ). i % w) e ∙ mod-mul-add c w low lt;
}

-- the flag of the first property, and those of the others
pub first_flag : (f n : ℕ) (o : Option Argument) (os : List (Option Argument)) → length os ≡ n → f % 2 ^ (suc n + 2) ≡ flags (o ∷ os) → Digits f (2 ^ (n + 2)) (cond (is_some o) 1 0) (flags os)
first_flag f n o os len e =
    let w : ℕ = 2 ^ (n + 2) in
    let below : flags os + 4 ≤ w = subst (λ (i : ℕ). flags os + 4 ≤ 2 ^ (i + 2)) len (flags-below os) in
    let width : suc n + 2 ≡ n + 3 = omega arith in
    let sum : (f / w % 2) * w + f % w ≡ cond (is_some o) 1 0 * w + flags os =
    sym (split_flags f n) ∙ ap (λ (i : ℕ). f % 2 ^ i) (sym width) ∙ e ∙ ap (λ (i : ℕ). cond (is_some o) 1 0 * 2 ^ (i + 2) + flags os) len in
    digits f w (cond (is_some o) 1 0) (flags os) (omega (arith, below)) (mod-lt f (omega (arith, below))) sum

pub options_again : (f : ℕ) (rs : List Row) (os : List (Option Argument)) (rest : List ℕ) → Descend rs → HaveKinds rs os → AllByRecursion IsSizedOption os → f % 2 ^ (length rs + 2) ≡ flags os
    → options_at f rs (flat_map value_of os ++ rest) ≡ Some (os, rest)
options_again f [] [] rest down kinds fits e = refl
options_again f [] (o ∷ os) rest down kinds fits e = absurd kinds
options_again f (r ∷ rs) [] rest down kinds fits e = absurd kinds
options_again f (r ∷ rs) (o ∷ os) rest down kinds fits e =
    let d = first_flag f (length rs) o os (same_len rs os kinds.1) e in
    let flagged : has_flag f r.bit ≡ is_some o = ap (λ (i : ℕ). has_flag f i) down.0 ∙ ap (λ (i : ℕ). eqb i 1) d.high ∙ bit_is (is_some o) in
    let one : option_at (has_flag f r.bit) r.kind (value_of o ++ (flat_map value_of os ++ rest)) ≡ Some (o, flat_map value_of os ++ rest) =
    ap (λ (b : Bool). option_at b r.kind (value_of o ++ (flat_map value_of os ++ rest))) flagged ∙ option_again o r.kind (flat_map value_of os ++ rest) kinds.0 fits.0 in
    ap (λ (z : List ℕ). options_at f (r ∷ rs) z) (append_assoc (value_of o) (flat_map value_of os) rest)
    ∙ ap (λ z. z >>= λ x. options_at f rs x.1 >>= λ y. Some (x.0 ∷ y.0, y.1)) one
    ∙ ap (λ z. z >>= λ y. Some (o ∷ y.0, y.1)) (options_again f rs os rest down.1 kinds.1 fits.1 d.rest)
