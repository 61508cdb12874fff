-- Properties that were read as bytes are those that the bytes spell.
use Rattle.headers.proofs.Names.{◌≡◌, ℕ, ◌+◌, ◌*◌, ◌^◌, ◌<◌, List, ◌++◌, take, drop, Option, Some, None, Result, Ok, Err, IfOk, option_map, refl, sym, ap, subst, ◌∙◌, arith, w16, to_be_bytes, from_be_bytes, flat_map, slice_index, Argument, text_of, octet_of, time_of, table_of, properties_of, flags, value_of, AreProperties, properties_bytes, as_text, as_octet, as_time, as_table, IsSpelling, IsBytes, properties_at, text_in, table_in, pairs_in, parts_in, HeadersAreWhole, from_be_bytes-to_be_bytes_2}
use Rattle.std.specs.Borrow.{Bor}
use Rattle.model.specs.Properties.{properties_from, spelled_by}
use Rattle.model.specs.declared.contents.Fields.{Fields as Properties}
use Rattle.headers.specs.declared.optional.Parts.{Parts}
use Rattle.headers.proofs.Flags.{flags-below}
use Rattle.headers.proofs.Spelled.{one_spelled}
use Rattle.headers.proofs.Kept.{properties_are, properties_again, told_same, same_properties}

text_again : (t : Option (Bor (List ℕ))) → text_of (as_text (text_in t)) ≡ text_in t
text_again None = refl
text_again (Some t) = refl

table_again : (t : Option (Bor (List ℕ))) → table_of (as_table (table_in t)) ≡ table_in t
table_again None = refl
table_again (Some t) = refl

octet_again : (n : Option ℕ) → octet_of (as_octet (octet_of n)) ≡ octet_of n
octet_again None = refl
octet_again (Some n) = refl

time_again : (n : Option ℕ) → time_of (as_time (time_of n)) ≡ time_of n
time_again None = refl
time_again (Some n) = refl

table_pairs : (t : Option (Bor (List ℕ))) → pairs_in t ≡ as_table (table_in t)
table_pairs None = refl
table_pairs (Some t) = refl

abbrev pub made : Parts → Properties
made parts = properties_from (parts_in parts)

pub made_again : (parts : Parts) → properties_of (made parts) ≡ parts_in parts
unfolding properties_from
made_again parts =
    rw (
      text_again parts.front.content_type,
      text_again parts.front.content_encoding,
      table_again parts.front.headers,
      octet_again parts.front.delivery_mode,
      octet_again parts.front.priority,
      text_again parts.front.correlation_id,
      text_again parts.front.reply_to,
      text_again parts.back.expiration,
      text_again parts.back.message_id,
      time_again parts.back.timestamp,
      text_again parts.back.kind,
      text_again parts.back.user_id,
      text_again parts.back.app_id,
      text_again parts.back.reserved,
    ) refl

made_headers : (parts : Parts) → pairs_in parts.front.headers ≡ (made parts).headers
unfolding properties_from
made_headers parts = table_pairs parts.front.headers

-- what was read, and the bytes that spell it
pub record IsRead (f : ℕ) (bytes spelled : List ℕ) (p : Properties) : Type 0 where
  pub read : properties_at f bytes ≡ Some (properties_of p)
  pub whole : HeadersAreWhole p.headers
  pub fits : AreProperties p
  pub bytes_are : spelled ≡ properties_bytes p

pub is_read : (f : ℕ) (bytes spelled : List ℕ) (parts : Parts) → f < 2 ^ 16 → IsBytes bytes → spelled ≡ to_be_bytes w16 f ++ bytes → Some (parts_in parts) ≡ properties_at f bytes
    → HeadersAreWhole (pairs_in parts.front.headers) → IsRead f bytes spelled (made parts)
is_read f bytes spelled parts small are e read table =
    let p : Properties = made parts in
    let again : properties_at f bytes ≡ Some (properties_of p) = sym read ∙ ap (λ (z : List (Option Argument)). Some z) (sym (made_again parts)) in
    let whole : HeadersAreWhole p.headers = subst HeadersAreWhole (made_headers parts) table in
    let k = properties_are f bytes p small are again whole in
    record {
      read = again;
      whole = whole;
      fits = k.0;
      bytes_are = e ∙ ap (λ (n : ℕ). to_be_bytes w16 n ++ bytes) (sym k.1) ∙ ap (λ (z : List ℕ). to_be_bytes w16 (flags (properties_of p)) ++ z) k.2;
    }

-- they are those that the bytes spell
pub gives : (f : ℕ) (bytes spelled : List ℕ) (p q : Properties) → IsRead f bytes spelled p → AreProperties q → spelled ≡ properties_bytes q
    → (properties_at f bytes ≡ Some (properties_of q)) × HeadersAreWhole q.headers
gives f bytes spelled p q is fits e =
    subst (λ (z : Properties). (properties_at f bytes ≡ Some (properties_of z)) × HeadersAreWhole z.headers) (one_spelled p q spelled is.fits is.bytes_are fits e) (is.read, is.whole)

-- ---- from the bytes that spell them

pub no_some : {A : Type 0} (x : A) → None ≡ Some x → ⊥
no_some x e = absurd cc

pub some_is : {A : Type 0} (x y : A) → Some x ≡ Some y → x ≡ y
some_is x y e = cc

-- flags and values of a spelling are read
pub parts_read : (bytes flags_bytes values : List ℕ) (f : ℕ) → IsSpelling bytes → flags_bytes ≡ take 2 bytes → values ≡ drop 2 bytes → f ≡ slice_index flags_bytes 0 * 256 + (slice_index flags_bytes 1 * 1 + 0)
    → properties_at f values ≡ Some (properties_of (spelled_by bytes))
parts_read bytes flags_bytes values f is front back number =
    let p : Properties = spelled_by bytes in
    let n : ℕ = flags (properties_of p) in
    let below = flags-below (properties_of p) in
    let small : n < 2 ^ 16 = omega (arith, below) in
    let read : f ≡ from_be_bytes w16 flags_bytes = omega (arith, number) in
    let same : f ≡ n =
    read ∙ ap (λ (z : List ℕ). from_be_bytes w16 z) front ∙ ap (λ (z : List ℕ). from_be_bytes w16 (take 2 z)) is.spelled ∙ from_be_bytes-to_be_bytes_2 n small in
    let rest : values ≡ flat_map value_of (properties_of p) = back ∙ ap (λ (z : List ℕ). drop 2 z) is.spelled in
    ap (λ (i : ℕ). properties_at i values) same ∙ ap (λ (z : List ℕ). properties_at n z) rest ∙ properties_again p is.fits

-- parts that are these properties
pub same_made : (parts : Parts) (p : Properties) → parts_in parts ≡ properties_of p → made parts ≡ p
same_made parts p e = ap properties_from e ∙ told_same p

pairs_mapped : (t : Option (Bor (List ℕ))) → option_map (λ (h : Bor (List ℕ)). h.now) t ≡ pairs_in t
pairs_mapped None = refl
pairs_mapped (Some t) = refl

pub its_pairs : (parts : Parts) (p : Properties) → parts_in parts ≡ properties_of p → option_map (λ (h : Bor (List ℕ)). h.now) parts.front.headers ≡ p.headers
its_pairs parts p e = pairs_mapped parts.front.headers ∙ made_headers parts ∙ ap (λ (q : Properties). q.headers) (same_made parts p e)

pub same_fields : {E : Type 0} (r : Result Properties E) (parts : Parts) (p : Properties) → parts_in parts ≡ properties_of p → IfOk r (λ q. properties_of q ≡ parts_in parts) → IfOk r (λ q. q ≡ p)
same_fields (Ok q) parts p e h = same_properties q p (h ∙ e)
same_fields (Err x) parts p e h = h
