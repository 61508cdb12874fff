-- A file that is refused by a cause is reported by the cause's number.
use Rattle.server.proofs.Names.{◌≡◌, ℕ, refl, sym, subst, Result, IsErrAnd, MatchResult, Text, IsCauseReported, IsLeastCause, FileRefusal, Known, HasText, IsWhyNot, IsWhyUncertified}
use Rattle.std.specs.Prelude.{Ok, Err}
use Rattle.json_file.specs.Causes.{cause_number}
use Rattle.json_file.specs.declared.causes.FileCause.{FileCause}
use Rattle.json_file.specs.declared.causes.FileCause.TheVariants.{Memory}
use Rattle.certificate.specs.Reads.{ReadsCertificateFile}
use Rattle.server.specs.FileRefusals.{of_cause}

-- ---- why a file of this text is refused

-- the cause of this number is the least that stands in the text, by what each cause asks of it
abbrev pub NamesLeast : (Text → FileCause → Type 0) → ℕ → Text → Type 0
NamesLeast Clear n text = (cause : FileCause) × (n ≡ cause_number cause) × IsLeastCause (Clear text) cause

-- by its least cause, or memory was wanting
pub why_of_cause : (Clear : Text → FileCause → Type 0) (known : Known) (text : Text) (bad : FileCause) → HasText known text
    → IsCauseReported (Clear text) bad → IsWhyNot (NamesLeast Clear) (of_cause bad) known
why_of_cause Clear known text Memory has h = tt
why_of_cause Clear known text bad has h = (text, has, (bad, refl, h))

-- a certificates file by its one cause
pub why_uncertified : (known : Known) (text : Text) (bad : FileCause) → HasText known text → ReadsCertificateFile (Err bad) text → IsWhyUncertified (of_cause bad) known
why_uncertified known text Memory has h = tt
why_uncertified known text bad has h = (text, has, (bad, refl, h))

-- ---- what a reader of a file answers

-- the bytes that were read are the text of the file
pub has_bytes : (known : Known) (text bytes : Text) → bytes ≡ text → HasText known text → HasText known bytes
has_bytes known text bytes e has = subst (λ (t : Text). HasText known t) (sym e) has

-- it refuses the file by the cause that it met
pub refuses : {X : Type 0} (Good : X → Type 0) (Why : FileRefusal → Type 0) (r : Result X FileRefusal) (bad : FileCause) → IsErrAnd r (λ e. e ≡ of_cause bad)
    → Why (of_cause bad) → MatchResult r Good Why
refuses Good Why (Ok x) bad is h = absurd is
refuses Good Why (Err e) bad is h = subst Why (sym is) h
