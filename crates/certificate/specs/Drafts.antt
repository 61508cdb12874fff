-- A certificates file that is written while the certificates are found (own).
use Rattle.std.specs.Prelude.{◌≡◌, ◌<◌, ◌≤◌, ◌++◌, ℕ, Bool, true, false, List, [], ◌∷◌, Result, Ok, Err, Option, Some, None, length, nat_lt, IsUtf8}
use Rattle.std.specs.List.{AllByRecursion}
use Rattle.serde_json.specs.Written.{comma_if, compact_text}
use Rattle.model.specs.Certificates.{Certificate}
use Rattle.certificate.specs.declared.drafts.Draft.{Draft}
use Rattle.certificate.specs.declared.drafts.Draft.TheVariants as draft
use Rattle.certificate.specs.declared.unwritten.Unwritten.{Unwritten}
use Rattle.certificate.specs.declared.unwritten.Unwritten.TheVariants.{NotText, TooLong, Memory}
use Rattle.certificate.specs.Joined.{ReadsBackWithin}
use Rattle.certificate.specs.Reads.{IsCertificatesFile}
use Rattle.certificate.specs.Spelled.{certificate_data, file_data}
use Rattle.certificate.specs.Writes.{AreTexts, FailsToPut}

-- the certificates as JSON, with commas between them, and one before the first if `later` is set
abbrev pub listed : Bool → List Certificate → List ℕ
listed later [] = []
listed later (c ∷ cs) = comma_if later ++ (compact_text (certificate_data c) ++ listed true cs)

-- the file of the certificates `cs` without the closing bracket
abbrev pub begun : List Certificate → List ℕ
begun cs = 91 ∷ listed false cs

-- `bytes` are the file of `cs` without the closing bracket; each certificate can be read back
pub record IsListed (bytes : List ℕ) (cs : List Certificate) : Type 0 where
  pub text : bytes ≡ begun cs
  pub utf8 : IsUtf8 bytes
  pub back : AllByRecursion (λ c. ReadsBackWithin (certificate_data c)) cs

-- `bytes` are the file of `cs` without the closing bracket, which fits within the size limit; each certificate can be read back
pub record IsBegun (bytes : List ℕ) (cs : List Certificate) : Type 0 where
  pub text : bytes ≡ begun cs
  pub short : length bytes < 16777216
  pub utf8 : IsUtf8 bytes
  pub back : AllByRecursion (λ c. ReadsBackWithin (certificate_data c)) cs

-- `bytes` are the file of `cs`: compact, within the size limit, and read back as exactly `cs`
pub record IsFile (bytes : List ℕ) (cs : List Certificate) : Type 0 where
  pub compact : bytes ≡ compact_text (file_data cs)
  pub short : length bytes ≤ 16777216
  pub states : IsCertificatesFile bytes cs

-- why `cs` have no file within the size limit; an allocation failure says nothing about them
abbrev pub HasNoFile : Unwritten → List Certificate → Type 0
HasNoFile NotText cs = AllByRecursion AreTexts cs → ⊥
HasNoFile TooLong cs = 16777216 < length (compact_text (file_data cs))
HasNoFile Memory cs = Unit {0}

-- the draft of the certificates `cs`: their file so far, or why they have none
abbrev pub IsDraft : Draft → List Certificate → Type 0
IsDraft (draft.Text text) cs = IsBegun text.items cs
IsDraft (draft.Refused why) cs = HasNoFile why cs

-- the certificate was appended, behind a comma unless it is the first
pub record HasPut (old new : List ℕ) (c : Certificate) : Type 0 where
  pub appends : new ≡ old ++ (comma_if (nat_lt 1 (length old)) ++ compact_text (certificate_data c))
  pub utf8 : IsUtf8 old → IsUtf8 new
  pub back : ReadsBackWithin (certificate_data c)

-- the text with the certificate behind it, and a comma before that unless it is the first
abbrev pub with_put : List ℕ → Certificate → List ℕ
with_put old c = old ++ (comma_if (nat_lt 1 (length old)) ++ compact_text (certificate_data c))

-- the certificate was appended; or one of its texts is not UTF-8, or the text would reach the limit, or an allocation failed
abbrev pub Puts : Result (Unit {0}) Unwritten → Option ℕ → List ℕ → List ℕ → Certificate → Type 0
Puts (Ok u) most old new c = HasPut old new c
Puts (Err e) most old new c = FailsToPut e most (length (with_put old c)) (AreTexts c)

-- `cs` were appended to the draft of some certificates; without a draft (`None`) there is none afterwards
abbrev pub Adds : Option Draft → Option Draft → List Certificate → Type 0
Adds None after cs = after ≡ None
Adds (Some before) None cs = ⊥
Adds (Some before) (Some after) cs = (done : List Certificate) → IsDraft before done → IsDraft after (done ++ cs)
