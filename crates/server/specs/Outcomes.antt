-- What `verify` prints (own): whether the certificate of each guarantee is accepted, a line each, and the exit status.
use Rattle.std.specs.Prelude.{◌≡◌, ◌+◌, ◌++◌, ℕ, Bool, true, false, List, [], ◌∷◌, Option, Some}
use Rattle.std.specs.Prelude.{None, Result, Ok, Err, codes, decimal, length, nat_lt, if◌then◌else◌}
use Rattle.std.specs.List.{list_any}
use Rattle.model.specs.Words.{Text}
use Rattle.model.specs.Topology.{Topology}
use Rattle.model.specs.Guarantee.{Guarantee, AllHold}
use Rattle.model.specs.Certificates.{Certificate}
use Rattle.certificate.specs.declared.faults.CertFault.{CertFault}
use Rattle.certificate.specs.declared.faults.CertFault.TheVariants.{Start, Open, Missed, Forbidden, Form, Memory}
use Rattle.certificate.specs.Certified.{ChecksAt, AreCertified}
use Rattle.scripts.specs.Transcript.{line, name_word}
use Rattle.server.specs.Verdicts.{EachWith}

-- a fault's number
abbrev pub fault_number : CertFault → ℕ
fault_number Start = 1
fault_number (Open at word) = 2
fault_number (Missed at) = 3
fault_number (Forbidden at) = 4
fault_number Form = 5
fault_number Memory = 6

-- ---- outcomes

-- the outcome of checking a certificate: accepted, or its first fault
abbrev pub Outcome : Type 0
Outcome = Result Unit CertFault

-- the outcome is one that is printed: any but an allocation failure
abbrev pub IsOutcomePrinted : Outcome → Type 0
IsOutcomePrinted (Ok u) = Unit {0}
IsOutcomePrinted (Err Start) = Unit {0}
IsOutcomePrinted (Err (Open at word)) = Unit {0}
IsOutcomePrinted (Err (Missed at)) = Unit {0}
IsOutcomePrinted (Err (Forbidden at)) = Unit {0}
IsOutcomePrinted (Err Form) = Unit {0}
IsOutcomePrinted (Err Memory) = ⊥

-- `o` is the outcome for the guarantee `g` and the certificate at index `place`: accepted, or its first fault; a missing certificate is fault 5
abbrev pub ReturnsOutcome : Topology → List Certificate → ℕ → Guarantee → Outcome → Type 0
ReturnsOutcome t cs place g o = ChecksAt t g cs place o × IsOutcomePrinted o

-- one more fault 5 if there are more certificates than guarantees
abbrev pub of_too_many : List Guarantee → List Certificate → List Outcome
of_too_many gs cs = if nat_lt (length gs) (length cs) then Err Form ∷ [] else []

-- an outcome for each guarantee, and one for the first surplus certificate
pub record AreOutcomes (t : Topology) (gs : List Guarantee) (cs : List Certificate) (outcomes : List Outcome) : Type 0 where
  pub own : List Outcome
  pub each : EachWith (ReturnsOutcome t cs) 0 gs own
  pub all : outcomes ≡ own ++ of_too_many gs cs

-- whether the certificate is not accepted
abbrev pub is_fault : Outcome → Bool
is_fault (Ok u) = false
is_fault (Err f) = true

-- the exit status: 1 if there is a fault, otherwise 0
abbrev pub status_of_outcomes : List Outcome → ℕ
status_of_outcomes os = if list_any is_fault os then 1 else 0

-- ---- lines

-- the word of a letter, or `other` for every word that no pattern names
abbrev pub letter_word : Option Text → Text
letter_word None = codes "other"
letter_word (Some word) = name_word word

-- the line of fault 2: the letter `word` leads from state `at` to one that is neither listed nor left out
abbrev pub open_line : ℕ → ℕ → Option Text → Text
open_line number at word = line (decimal number ∷ codes "fault 2 state" ∷ decimal at ∷ codes "letter" ∷ letter_word word ∷ [])

-- the line of the outcome of certificate `number`
abbrev pub outcome_line : ℕ → Outcome → Text
outcome_line number (Ok u) = line (decimal number ∷ codes "ok" ∷ [])
outcome_line number (Err Start) = line (decimal number ∷ codes "fault 1" ∷ [])
outcome_line number (Err (Open at word)) = open_line number at word
outcome_line number (Err (Missed at)) = line (decimal number ∷ codes "fault 3 state" ∷ decimal at ∷ [])
outcome_line number (Err (Forbidden at)) = line (decimal number ∷ codes "fault 4 state" ∷ decimal at ∷ [])
outcome_line number (Err Form) = line (decimal number ∷ codes "fault 5" ∷ [])
outcome_line number (Err Memory) = line (decimal number ∷ codes "fault 6" ∷ [])

-- the lines of outcomes, numbered from `number`
abbrev pub outcome_lines : ℕ → List Outcome → Text
outcome_lines number [] = []
outcome_lines number (o ∷ os) = outcome_line number o ++ outcome_lines (number + 1) os

-- What exit status 0 means: each guarantee has its certificate, no certificate is left over, and so all guarantees hold.
abbrev pub IsVouched : Topology → List Guarantee → List Certificate → ℕ → Type 0
IsVouched t gs cs status = status ≡ 0 → AreCertified t gs cs × AllHold t gs

-- The text and the exit status say for each guarantee whether its certificate is accepted, and report the first surplus certificate.
pub record Verifies (t : Topology) (gs : List Guarantee) (cs : List Certificate) (text : Text) (status : ℕ) : Type 0 where
  pub outcomes : List Outcome
  pub are : AreOutcomes t gs cs outcomes
  pub shown : text ≡ outcome_lines 1 outcomes
  pub status_is : status ≡ status_of_outcomes outcomes
  pub means : IsVouched t gs cs status
