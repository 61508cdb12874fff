-- A content whose header is not too large can be sent again, once its body has come.
use Rattle.assembly.proofs.Imports.{◌≡◌, ◌≤◌, ℕ, List, [], length, Bool, true, false, Ok, refl, sym, ap, subst, ◌∙◌, nat_lt, ◌||◌, false≢true, ltb-false, AreProperties, header_bytes, size_at, SaysHeader, SaysSize, size, Makes, IsCommand, is_too_large, most_body, most_header, taken_body, taken_header, IsMethod, Text, Command, Full, Publish, BasicPublish, IsPublishBegun}
use Rattle.std.proofs.lemmas.Nat.{from_be_bytes-to_be_bytes_8}
use Rattle.model.specs.Headers
use Rattle.model.specs.Headers.{said}

neither : (a b : Bool) → (a || b) ≡ false → (a ≡ false) × (b ≡ false)
neither true b e = absurd (false≢true (sym e))
neither false b e = (refl, e)

not_above : (a b : ℕ) → nat_lt a b ≡ false → b ≤ a
not_above a b e = ltb-false a b e

-- what a header declares that was read
declared : (payload : List ℕ) (h : Headers.Header) → SaysHeader payload (Ok h) → (size_at payload ≡ h.size) × AreProperties h.properties × (payload ≡ header_bytes h.size h.properties)
declared payload h (said below are is) = (ap (λ (z : List ℕ). size_at z) is ∙ from_be_bytes-to_be_bytes_8 h.size below, are, is)

-- a content that is not too large was begun
pub begun : (payload : List ℕ) (p : Publish) (h : Headers.Header) → IsMethod (BasicPublish p) → is_too_large payload (size_at payload) ≡ false → SaysHeader payload (Ok h) → IsPublishBegun p h.properties h.size
begun payload p h method small says =
    let at = declared payload h says in
    let limits = neither _ _ small in
    record {
      method = method;
      spelled = at.1;
      body = subst (λ (n : ℕ). n ≤ most_body) at.0 (not_above most_body (size_at payload) limits.0);
      header = subst (λ (z : List ℕ). length z ≤ most_header) at.2 (not_above most_header (length payload) limits.1);
    }

-- where no body is declared, the publish is whole, and its content is not too large
pub empty_body : (h : ℕ) (p : Publish) (header : Headers.Header) (c : Command) (body : Text) → c ≡ Full h p (record { properties = header.properties; body = body }) → body ≡ [] → header.size ≡ 0 → IsPublishBegun p header.properties header.size
    → (Makes c ≡ taken_header true h p (Ok header)) × IsCommand c
empty_body h p header c body is empty none b =
    let made : c ≡ Full h p (record { properties = header.properties; body = [] }) = is ∙ ap (λ (z : Text). Full h p (record { properties = header.properties; body = z })) empty in
    let start : IsPublishBegun p header.properties 0 = subst (IsPublishBegun p header.properties) none b in (
      ap Makes made ∙ subst (λ (n : ℕ). Makes (Full h p (record { properties = header.properties; body = [] })) ≡ taken_body h p header.properties n []) (sym none) refl,
      subst IsCommand (sym made) (start.method, record { properties = start.spelled; body = start.body; header = start.header }),
    )

-- the size that was read is the one that the header declares
pub small_at : (payload : List ℕ) (n : ℕ) → SaysSize payload (Ok n) → is_too_large payload n ≡ false → is_too_large payload (size_at payload) ≡ false
small_at payload n (size l c w) e = e

-- so the size that was read is the one in the header
pub same_size : (payload : List ℕ) (n : ℕ) (h : Headers.Header) → SaysSize payload (Ok n) → SaysHeader payload (Ok h) → n ≡ h.size
same_size payload n h (size l c w) says = (declared payload h says).0
