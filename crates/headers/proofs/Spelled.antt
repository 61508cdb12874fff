-- The bytes that spell properties tell them.
use Rattle.headers.proofs.Names.{◌≡◌, ℕ, suc, ◌+◌, ◌%◌, ◌^◌, ◌<◌, Bool, eqb, List, [], ◌∷◌, ◌++◌, length, take, drop, Option, Some, None, refl, sym, ap, subst, ◌∙◌, arith, if◌then◌else◌, is_some, flat_map, take_at, drop_at, from_be_bytes-to_be_bytes_2, from_be_bytes-to_be_bytes_4, from_be_bytes-to_be_bytes_8, mod-eq_of_lt, Text, Argument, Long_long, Short_text, Field_table, argument, text_of, octet_of, time_of, table_of, properties_of, flags, value_of, IsValue, AreProperties, properties_bytes, First, first_text, first_octet, first_time, first_table, sorts, is_flagged, IsSpelling}
use Rattle.model.specs.Properties.{values_in, properties_from, spelled_by}
use Rattle.model.specs.declared.contents.Fields.{Fields as Properties}
use Rattle.headers.proofs.Flags.{flags-below, bit_is, first_flag}
use Rattle.headers.proofs.Kept.{told_same}

-- ---- one value

-- a value is told by the bytes that spell it, whatever follows them
abbrev Tells : First → Option Argument → Type 0
Tells first None = Unit {0}
Tells first (Some a) = (more : List ℕ) → first (argument a ++ more) ≡ a

tells_text : (t : Option Text) → Tells first_text (text_of t)
tells_text None = tt
tells_text (Some t) = λ more. ap (λ (z : Text). Short_text z) (take_at t more (length t) refl)

tells_octet : (n : Option ℕ) → Tells first_octet (octet_of n)
tells_octet None = tt
tells_octet (Some n) = λ more. refl

tells_time : (n : Option ℕ) → IsValue (time_of n) → Tells first_time (time_of n)
tells_time None fits = tt
tells_time (Some n) fits = λ more. ap (λ (i : ℕ). Long_long i) (from_be_bytes-to_be_bytes_8 n fits)

tells_table : (t : Option (List ℕ)) → IsValue (table_of t) → Tells first_table (table_of t)
tells_table None fits = tt
tells_table (Some t) fits =
    λ more.
    let small : length t < 2 ^ 32 = subst (λ (z : List ℕ). length z < 2 ^ 32) (sym fits.spelled) fits.fits.size in
    ap (λ (i : ℕ). Field_table (take i (t ++ more))) (from_be_bytes-to_be_bytes_4 (length t) small) ∙ ap (λ (z : List ℕ). Field_table z) (take_at t more (length t) refl)

-- ---- several values

abbrev AllTell : List First → List (Option Argument) → Type 0
AllTell [] [] = Unit {0}
AllTell (first ∷ others) (o ∷ os) = Tells first o × AllTell others os
AllTell [] (o ∷ os) = ⊥
AllTell (first ∷ others) [] = ⊥

same_len : (others : List First) (os : List (Option Argument)) → AllTell others os → length os ≡ length others
same_len [] [] h = refl
same_len [] (o ∷ os) h = absurd h
same_len (first ∷ others) [] h = absurd h
same_len (first ∷ others) (o ∷ os) h = ap (λ (i : ℕ). suc i) (same_len others os h.1)

-- one value, where it is known whether it is flagged
abbrev one : Bool → ℕ → First → List First → List ℕ → List (Option Argument)
one is f first others bytes = if is then (Some (first bytes) ∷ values_in f others (drop (length (argument (first bytes))) bytes)) else (None ∷ values_in f others bytes)

one_told : (o : Option Argument) (f : ℕ) (first : First) (others : List First) (more : List ℕ) → Tells first o → one (is_some o) f first others (value_of o ++ more) ≡ o ∷ values_in f others more
one_told None f first others more tells = refl
one_told (Some a) f first others more tells =
    ap (λ (b : Argument). Some b ∷ values_in f others (drop (length (argument b)) (argument a ++ more))) (tells more)
    ∙ ap (λ (z : List ℕ). Some a ∷ values_in f others z) (drop_at (argument a) more (length (argument a)) refl)

values_again : (f : ℕ) (firsts : List First) (os : List (Option Argument)) → AllTell firsts os → f % 2 ^ (length firsts + 2) ≡ flags os → values_in f firsts (flat_map value_of os) ≡ os
unfolding values_in
values_again f [] [] tell e = refl
values_again f [] (o ∷ os) tell e = absurd tell
values_again f (first ∷ others) [] tell e = absurd tell
values_again f (first ∷ others) (o ∷ os) tell e =
    let d = first_flag f (length others) o os (same_len others os tell.1) e in
    let flagged : is_flagged f (length others + 2) ≡ is_some o = ap (λ (i : ℕ). eqb i 1) d.high ∙ bit_is (is_some o) in
    ap (λ (b : Bool). one b f first others (value_of o ++ flat_map value_of os)) flagged
    ∙ one_told o f first others (flat_map value_of os) tell.0
    ∙ ap (λ (z : List (Option Argument)). o ∷ z) (values_again f others os tell.1 d.rest)

-- ---- all fourteen

all_tell : (p : Properties) → AreProperties p → AllTell sorts (properties_of p)
all_tell p fits = (
  tells_text p.content_type,
  (
    tells_text p.content_encoding,
    (
      tells_table p.headers fits.1.1.0,
      (
        tells_octet p.delivery_mode,
        (
          tells_octet p.priority,
          (
            tells_text p.correlation_id,
            (
              tells_text p.reply_to,
              (
                tells_text p.expiration,
                (
                  tells_text p.message_id,
                  (
                    tells_time p.timestamp fits.1.1.1.1.1.1.1.1.1.0,
                    (tells_text p.kind, (tells_text p.user_id, (tells_text p.app_id, (tells_text p.reserved, tt)))),
                  ),
                ),
              ),
            ),
          ),
        ),
      ),
    ),
  ),
)

pub told_again : (p : Properties) → AreProperties p → spelled_by (properties_bytes p) ≡ p
unfolding spelled_by
told_again p fits =
    let os : List (Option Argument) = properties_of p in
    let below = flags-below os in
    let small : flags os < 2 ^ 16 = omega (arith, below) in
    ap (λ (f : ℕ). properties_from (values_in f sorts (flat_map value_of os))) (from_be_bytes-to_be_bytes_2 (flags os) small)
    ∙ ap properties_from (values_again (flags os) sorts os (all_tell p fits) (mod-eq_of_lt small))
    ∙ told_same p

pub told : (p : Properties) (bytes : List ℕ) → AreProperties p → bytes ≡ properties_bytes p → spelled_by bytes ≡ p
told p bytes fits e = ap spelled_by e ∙ told_again p fits

-- bytes that spell properties are a spelling
pub is_spelling : (p : Properties) (bytes : List ℕ) → AreProperties p → bytes ≡ properties_bytes p → IsSpelling bytes
is_spelling p bytes fits e =
    let same : spelled_by bytes ≡ p = told p bytes fits e in
    record {
      fits = subst AreProperties (sym same) fits;
      spelled = e ∙ ap properties_bytes (sym same);
    }

-- there is one such record
pub one_spelled : (p q : Properties) (bytes : List ℕ) → AreProperties p → bytes ≡ properties_bytes p → AreProperties q → bytes ≡ properties_bytes q → p ≡ q
one_spelled p q bytes fits e also same = sym (told p bytes fits e) ∙ told q bytes also same
