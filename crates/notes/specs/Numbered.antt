-- Notes of a message that left its queue.
use Rattle.std.specs.Prelude.{ℕ}
use Rattle.model.specs.Words.{Text}
use Rattle.model.specs.declared.notes.Note.{Note}
use Rattle.model.specs.declared.notes.Note.TheVariants.{Left}

-- `note` with message number `number` if it is a `Left`; any other note unchanged
abbrev pub numbered : ℕ → Note → Note
numbered number (Left n queue cause) = Left number queue cause
numbered number note = note

-- `note` with the queue called `name` if it is a `Left`; any other note unchanged
abbrev pub in_queue : Text → Note → Note
in_queue name (Left n queue cause) = Left n name cause
in_queue name note = note
