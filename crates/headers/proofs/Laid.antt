-- A header is its fixed fields, its first seven properties and the other seven.
use Rattle.headers.proofs.Names.{◌≡◌, ℕ, ◌+◌, List, [], ◌∷◌, ◌++◌, length, Option, Some, None, refl, sym, ap, ◌∙◌, append_assoc, length-append, arith, is_some, Text, Argument, text_of, octet_of, time_of, table_of, properties_of, flags, value_of, AreProperties, header_bytes, front_of, back_of, values, AreValues, front_flags, back_flags, fixed}
use Rattle.model.specs.declared.contents.Fields.{Fields as Properties}

-- ---- flags

text_flag : (t : Option Text) → is_some (text_of t) ≡ is_some t
text_flag None = refl
text_flag (Some t) = refl

octet_flag : (n : Option ℕ) → is_some (octet_of n) ≡ is_some n
octet_flag None = refl
octet_flag (Some n) = refl

time_flag : (n : Option ℕ) → is_some (time_of n) ≡ is_some n
time_flag None = refl
time_flag (Some n) = refl

table_flag : (t : Option (List ℕ)) → is_some (table_of t) ≡ is_some t
table_flag None = refl
table_flag (Some t) = refl

-- fourteen numbers, added up from the right or from the left
sums : (a b c d e f g h i j k l m n : ℕ) → a + (b + (c + (d + (e + (f + (g + (h + (i + (j + (k + (l + (m + (n + 0))))))))))))) ≡ (a + b + c + d + e + f + g) + (h + i + j + k + l + m + n)
sums a b c d e f g h i j k l m n = omega arith

pub flags_are : (p : Properties) → front_flags p + back_flags p ≡ flags (properties_of p)
flags_are p =
    sym (
    rw (
      text_flag p.content_type,
      text_flag p.content_encoding,
      table_flag p.headers,
      octet_flag p.delivery_mode,
      octet_flag p.priority,
      text_flag p.correlation_id,
      text_flag p.reply_to,
      text_flag p.expiration,
      text_flag p.message_id,
      time_flag p.timestamp,
      text_flag p.kind,
      text_flag p.user_id,
      text_flag p.app_id,
      text_flag p.reserved,
    )
    (sums _ _ _ _ _ _ _ _ _ _ _ _ _ _))

-- ---- values

all_front : (os qs : List (Option Argument)) → AreValues (os ++ qs) → AreValues os
all_front [] qs h = tt
all_front (o ∷ os) qs h = (h.0, all_front os qs h.1)

all_back : (os qs : List (Option Argument)) → AreValues (os ++ qs) → AreValues qs
all_back [] qs h = h
all_back (o ∷ os) qs h = all_back os qs h.1

all_both : (os qs : List (Option Argument)) → AreValues os → AreValues qs → AreValues (os ++ qs)
all_both [] qs g h = h
all_both (o ∷ os) qs g h = (g.0, all_both os qs g.1 h)

pub front_fits : (p : Properties) → AreProperties p → AreValues (front_of p)
front_fits p h = all_front (front_of p) (back_of p) h

pub back_fits : (p : Properties) → AreProperties p → AreValues (back_of p)
back_fits p h = all_back (front_of p) (back_of p) h

pub both_fit : (p : Properties) → AreValues (front_of p) → AreValues (back_of p) → AreProperties p
both_fit p g h = all_both (front_of p) (back_of p) g h

values-append : (os qs : List (Option Argument)) → values (os ++ qs) ≡ values os ++ values qs
values-append [] qs = refl
values-append (o ∷ os) qs = ap (λ (z : List ℕ). value_of o ++ z) (values-append os qs) ∙ sym (append_assoc (value_of o) (values os) (values qs))

-- ---- the whole

-- from the fixed fields on, at variables
abbrev laid : ℕ → ℕ → List ℕ → List ℕ → List ℕ
laid size n front back = fixed size n ++ front ++ back

pub header_laid : (size : ℕ) (p : Properties) → header_bytes size p ≡ laid size (front_flags p + back_flags p) (values (front_of p)) (values (back_of p))
header_laid size p =
    sym (ap (λ (n : ℕ). fixed size n ++ values (properties_of p)) (flags_are p))
    ∙ ap (λ (z : List ℕ). fixed size (front_flags p + back_flags p) ++ z) (values-append (front_of p) (back_of p))
    ∙ sym (append_assoc (fixed size (front_flags p + back_flags p)) (values (front_of p)) (values (back_of p)))

fixed_len : (size n : ℕ) → length (fixed size n) ≡ 14
fixed_len size n = refl

pub header_len : (size : ℕ) (p : Properties) → 14 + length (values (front_of p)) + length (values (back_of p)) ≡ length (header_bytes size p)
header_len size p =
    let n : ℕ = front_flags p + back_flags p in
    let front : List ℕ = values (front_of p) in
    let back : List ℕ = values (back_of p) in
    let e : length (header_bytes size p) ≡ length (laid size n front back) = ap (λ (z : List ℕ). length z) (header_laid size p) in
    omega (arith, e, length-append (fixed size n ++ front) back, length-append (fixed size n) front, fixed_len size n)

-- what is put part by part
pub put_parts : (old a b d : List ℕ) (size m n : ℕ) (p : Properties) → a ≡ old ++ fixed size (m + n) → m ≡ front_flags p → n ≡ back_flags p → b ≡ a ++ values (front_of p) → d ≡ b ++ values (back_of p) → d ≡ old ++ header_bytes size p
put_parts old a b d size m n p ea em en eb ed =
    let front : List ℕ = values (front_of p) in
    let back : List ℕ = values (back_of p) in
    let k : ℕ = front_flags p + back_flags p in
    let flags_same : m + n ≡ k = ap (λ (i : ℕ). i + n) em ∙ ap (λ (i : ℕ). front_flags p + i) en in
    ed ∙ ap (λ (z : List ℕ). z ++ back) eb ∙ ap (λ (z : List ℕ). z ++ front ++ back) (ea ∙ ap (λ (i : ℕ). old ++ fixed size i) flags_same)
    ∙ append_assoc (old ++ fixed size k) front back ∙ append_assoc old (fixed size k) (front ++ back)
    ∙ ap (λ (z : List ℕ). old ++ z) (sym (append_assoc (fixed size k) front back) ∙ sym (header_laid size p))
