-- Laws that hold for all payloads of header frames.
use Rattle.std.specs.Prelude.{◌≡◌, ◌≢◌, ◌<◌, ◌≤◌, ◌%◌, ◌^◌, ℕ, List, [], ◌++◌, length, Some, None, Result, Err}
use Rattle.model.specs.Tables.{IsTable}
use Rattle.model.specs.Grammar.{class_at}
use Rattle.model.specs.Headers.{Header, AreProperties, header_bytes, weight_at, flags_at, SaysHeader}

-- a payload means at most one thing: one header, or one reply code
abbrev pub OneHeader : Type 0
OneHeader = (payload : List ℕ) (r q : Result Header ℕ) → SaysHeader payload r → SaysHeader payload q → r ≡ q

-- what is a syntax error (502) in a payload with a header's fixed fields
pub record SyntaxErrors : Type 0 where
  -- bit 1 or 0 of the flags is set
  pub low_flags : (payload : List ℕ) → 14 ≤ length payload → class_at payload ≡ 60
      → weight_at payload ≡ 0 → flags_at payload % 4 ≢ 0 → SaysHeader payload (Err 502)
  -- the properties end early: appending some bytes makes the payload a header
  pub end_early : (payload more : List ℕ) (h : Header) → 14 ≤ length payload → class_at payload ≡ 60 → weight_at payload ≡ 0
      → h.size < 2 ^ 64 → AreProperties h.properties
      → payload ++ more ≡ header_bytes h.size h.properties → more ≢ [] → SaysHeader payload (Err 502)
  -- bytes are left over after the properties
  pub left_over : (h : Header) (more : List ℕ) → h.size < 2 ^ 64 → AreProperties h.properties
      → more ≢ [] → SaysHeader (header_bytes h.size h.properties ++ more) (Err 502)
  -- the headers are no table, and everything else can be encoded
  pub bad_table : (h : Header) (pairs : List ℕ) → h.size < 2 ^ 64
      → AreProperties (record h.properties { headers = None }) → h.properties.headers ≡ Some pairs
      → length pairs < 2 ^ 32 → (IsTable pairs → ⊥) → SaysHeader (header_bytes h.size h.properties) (Err 502)
