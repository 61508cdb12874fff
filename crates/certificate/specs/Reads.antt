-- What reading a certificates file returns (own).
use Rattle.std.specs.Prelude.{◌≡◌, List, ℕ, Option, Some, None, Result, Ok, Err, Vec}
use Rattle.std.specs.declared.alloc.Global.{Global}
use Rattle.json_file.specs.Files.{IsFileOf, IsUnreadFile}
use Rattle.json_file.specs.Outcomes.{FailsJson}
use Rattle.state_walks.specs.Judged.{states_of}
use Rattle.certificate.specs.Views.{form_view}
use Rattle.certificate.specs.declared.forms.Form as stated
use Rattle.model.specs.Certificates.{Certificate, Form}
use Rattle.json_file.specs.declared.causes.FileCause.{FileCause}
use Rattle.certificate.specs.Stated.{certificates_stated}

-- the result is the states that the value spells, or the value is refused because it spells none, or an allocation failed
abbrev pub GivesStates : Result (Vec (Vec ℕ Global) Global) FileCause → Option (List (List ℕ)) → Type 0
GivesStates (Ok v) o = o ≡ Some (states_of v.items)
GivesStates (Err e) o = FailsJson e (o ≡ None)

-- the form that the value states is returned; or the value states none, or an allocation failed
abbrev pub GivesForm : Result stated.Form FileCause → Option Form → Type 0
GivesForm (Ok form) o = o ≡ Some (form_view form)
GivesForm (Err e) o = FailsJson e (o ≡ None)

-- the file is JSON and states the certificates `cs`
abbrev pub IsCertificatesFile : List ℕ → List Certificate → Type 0
IsCertificatesFile bytes cs = IsFileOf certificates_stated bytes cs

-- A file is read as the certificates that it states, or refused: it is too long, no JSON, or states none. An allocation failure says
-- nothing about it.
abbrev pub ReadsCertificateFile : Result (Vec Certificate Global) FileCause → List ℕ → Type 0
ReadsCertificateFile (Ok cs) bytes = IsCertificatesFile bytes cs.items
ReadsCertificateFile (Err bad) bytes = IsUnreadFile certificates_stated bad bytes
