-- The answer to a line, written piece by piece (own).
use Rattle.std.specs.Prelude.{◌≡◌, ◌++◌, ◌⊎◌, Option, Some, None}
use Rattle.model.specs.Words.{Text}
use Rattle.line_parts.specs.declared.answers.Unanswered.{Unanswered}
use Rattle.line_parts.specs.declared.answers.Unanswered.TheVariants.{Memory}

-- the text appended so far, and the first reason why there is no answer, if there is one
pub record Answering : Type 0 where
  pub text : Text
  pub lack : Option Unanswered

-- the first of two reasons
abbrev pub first_unanswered : Option Unanswered → Unanswered → Unanswered
first_unanswered None why = why
first_unanswered (Some first) why = first

-- there is no answer: for the reason that was there before, if any, otherwise for the reason `why`
abbrev pub failed : Unanswered → Answering → Answering
failed why a = record a { lack = Some (first_unanswered a.lack why) }

-- if there was no reason, the piece was appended, or an allocation failed and is the reason now; otherwise nothing changed
abbrev pub PutsAt : Option Unanswered → Text → Answering → Answering → Type 0
PutsAt (Some why) piece old new = new ≡ old
PutsAt None piece old new = (new ≡ record old { text = old.text ++ piece }) ⊎ (new ≡ record old { lack = Some Memory })

-- the piece was appended, unless there was already a reason why there is no answer, or an allocation failed
abbrev pub PutsPiece : Text → Answering → Answering → Type 0
PutsPiece piece old new = PutsAt old.lack piece old new
