-- What writing certificates returns (own).
use Rattle.std.specs.Prelude.{◌≡◌, ◌<◌, ◌≤◌, ◌++◌, ◌∷◌, [], ◌^◌, ℕ, Bool, true, false, List, Option, Some, None, Result, Ok, Err, length, nat_le, Vec, IsUtf8}
use Rattle.std.specs.List.{AllByRecursion}
use Rattle.std.specs.declared.alloc.Global.{Global}
use denote.Ref.{Bor}
use Rattle.serde_json.specs.Written.{compact_text}
use Rattle.serde_json.specs.Data.{Data, object, string}
use Rattle.serde_json.specs.View.{view}
use Rattle.serde_json.specs.declared.value.Value.{Value}
use Rattle.model.specs.Words.{Text}
use Rattle.model.specs.Certificates.{Certificate, Form, Whole, Sliced, Excepting}
use Rattle.certificate.specs.declared.unwritten.Unwritten.{Unwritten}
use Rattle.certificate.specs.declared.unwritten.Unwritten.TheVariants.{NotText, TooLong, Memory}
use Rattle.certificate.specs.Spelled.{certificate_data, excepts_data, file_data, head_members, head_text, state_data, states_data, tracked_text, Texts}
use Rattle.certificate.specs.Reads.{IsCertificatesFile}

-- the texts of the form, if it has any, are UTF-8
abbrev pub HasTexts : Form → Type 0
HasTexts Whole = Unit {0}
HasTexts (Sliced indices) = Unit {0}
HasTexts (Excepting excepts indices) = AllByRecursion IsUtf8 excepts

-- the texts of a certificate are UTF-8
pub record AreTexts (c : Certificate) : Type 0 where
  pub exchange : IsUtf8 c.exchange
  pub mode : IsUtf8 c.mode
  pub pattern : IsUtf8 c.pattern
  pub queue : IsUtf8 c.queue
  pub excepts : HasTexts c.form

-- the error is right: `why` (all the texts are UTF-8) doesn't hold, or an allocation failed; the length is never a reason
abbrev pub FailsToWrite : Unwritten → Type 0 → Type 0
FailsToWrite NotText why = why → ⊥
FailsToWrite TooLong why = ⊥
FailsToWrite Memory why = Unit {0}

-- the text is borrowed, and it is UTF-8
pub record IsLent (shown : List ℕ) (text : Text) : Type 0 where
  pub same : shown ≡ text
  pub utf8 : IsUtf8 text

-- the text is borrowed, or it is not UTF-8, or an allocation failed
abbrev pub LendsText : Result (Bor (List ℕ)) Unwritten → Text → Type 0
LendsText (Ok s) text = IsLent s.now text
LendsText (Err e) text = FailsToWrite e (IsUtf8 text)

-- the value is the text as JSON, and the text is UTF-8
pub record IsTextValue (d : Data) (text : Text) : Type 0 where
  pub value : d ≡ string text
  pub utf8 : IsUtf8 text

-- the result is the text as JSON, or the error is right: the text is not UTF-8, or an allocation failed
abbrev pub GivesText : Result Value Unwritten → Text → Type 0
GivesText (Ok v) text = IsTextValue (view v) text
GivesText (Err e) text = FailsToWrite e (IsUtf8 text)

-- the value is the texts as JSON, and they are UTF-8
pub record AreTextValues (d : Data) (texts : List Text) : Type 0 where
  pub value : d ≡ excepts_data texts
  pub utf8 : AllByRecursion IsUtf8 texts

-- the texts as JSON, or one of them is not UTF-8, or an allocation failed
abbrev pub GivesTexts : Result Value Unwritten → List Text → Type 0
GivesTexts (Ok v) texts = AreTextValues (view v) texts
GivesTexts (Err e) texts = FailsToWrite e (AllByRecursion IsUtf8 texts)

-- the value has the members before `states`, and the texts of the form are UTF-8
pub record IsHead (d : Data) (form : Form) (texts : Texts) : Type 0 where
  pub value : d ≡ object (head_members form texts)
  pub utf8 : HasTexts form

-- the members before `states`; or a text of the form is not UTF-8, or an allocation failed
abbrev pub GivesHead : Result Value Unwritten → Form → Texts → Type 0
GivesHead (Ok v) form texts = IsHead (view v) form texts
GivesHead (Err e) form texts = FailsToWrite e (HasTexts form)

-- the text up to the states was appended, and the texts of the form are UTF-8
pub record HasHead (old new : List ℕ) (form : Form) (texts : Texts) : Type 0 where
  pub text : new ≡ old ++ head_text form texts
  pub utf8 : HasTexts form

-- the text up to the states was appended; or a text of the form is not UTF-8, or an allocation failed
abbrev pub PutsHead : Result (Unit {0}) Unwritten → List ℕ → List ℕ → Form → Texts → Type 0
PutsHead (Ok u) old new form texts = HasHead old new form texts
PutsHead (Err e) old new form texts = FailsToWrite e (HasTexts form)

-- the numbers fit into 64 bits
abbrev pub AreNarrow : List ℕ → Type 0
AreNarrow = AllByRecursion (λ n. n < 2 ^ 64)

-- the state was appended, and its numbers fit into 64 bits
pub record HasState (old new state : List ℕ) : Type 0 where
  pub text : new ≡ old ++ compact_text (state_data state)
  pub narrow : AreNarrow state

-- whether a text of this length has reached the limit, if there is one
abbrev pub is_full : Option ℕ → ℕ → Bool
is_full None n = false
is_full (Some most) n = nat_le most n

-- why a text that would have at least `n` bytes is not written: one of its texts is not UTF-8, or it would reach the limit, or an allocation failed
abbrev pub FailsToPut : Unwritten → Option ℕ → ℕ → Type 0 → Type 0
FailsToPut NotText most n why = why → ⊥
FailsToPut TooLong most n why = is_full most n ≡ true
FailsToPut Memory most n why = Unit {0}

-- the states were appended, and their numbers fit into 64 bits
pub record HasStates (old new : List ℕ) (states : List (List ℕ)) : Type 0 where
  pub text : new ≡ old ++ compact_text (states_data states)
  pub narrow : AllByRecursion AreNarrow states

-- the states were appended, or the text would reach the limit, or an allocation failed
abbrev pub PutsStates : Result (Unit {0}) Unwritten → Option ℕ → List ℕ → List ℕ → List (List ℕ) → Type 0
PutsStates (Ok u) most old new states = HasStates old new states
PutsStates (Err e) most old new states = FailsToPut e most (length (old ++ compact_text (states_data states))) (Unit {0})

-- the indices that are tracked, if there are any, fit into 64 bits
abbrev pub HasNarrow : Form → Type 0
HasNarrow Whole = Unit {0}
HasNarrow (Sliced indices) = AreNarrow indices
HasNarrow (Excepting excepts indices) = AreNarrow indices

-- the tracked indices and the closing brace were appended, and the indices fit into 64 bits
pub record HasTracked (old new indices : List ℕ) : Type 0 where
  pub text : new ≡ old ++ tracked_text indices
  pub narrow : AreNarrow indices

-- what follows the states was appended
abbrev pub HasTail : List ℕ → List ℕ → Form → Type 0
HasTail old new Whole = new ≡ old ++ 125 ∷ []
HasTail old new (Sliced indices) = HasTracked old new indices
HasTail old new (Excepting excepts indices) = HasTracked old new indices

-- the certificate was appended; its texts are UTF-8, and its numbers fit into 64 bits
pub record HasCertificate (old new : List ℕ) (c : Certificate) : Type 0 where
  pub text : new ≡ old ++ compact_text (certificate_data c)
  pub texts : AreTexts c
  pub states : AllByRecursion AreNarrow c.states
  pub indices : HasNarrow c.form

-- the certificate was appended; or one of its texts is not UTF-8, or the text would reach the limit, or an allocation failed
abbrev pub PutsCertificate : Result (Unit {0}) Unwritten → Option ℕ → List ℕ → List ℕ → Certificate → Type 0
PutsCertificate (Ok u) most old new c = HasCertificate old new c
PutsCertificate (Err e) most old new c = FailsToPut e most (length (old ++ compact_text (certificate_data c))) (AreTexts c)

-- the file is compact, and is read back as `cs` if it isn't too long
pub record IsWritten (bytes : List ℕ) (cs : List Certificate) : Type 0 where
  pub compact : bytes ≡ compact_text (file_data cs)
  pub reads_back : length bytes ≤ 16777216 → IsCertificatesFile bytes cs

-- the file of `cs` was written, or a text of one is not UTF-8, or an allocation failed
abbrev pub Writes : Result (Vec ℕ Global) Unwritten → List Certificate → Type 0
Writes (Ok bytes) cs = IsWritten bytes.items cs
Writes (Err e) cs = FailsToWrite e (AllByRecursion AreTexts cs)
