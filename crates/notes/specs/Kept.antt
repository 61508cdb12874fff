-- Whether the notes of a list are kept for a reader (own).
use Rattle.std.specs.Prelude.{Bool, Vec}
use Rattle.model.specs.declared.notes.Note.{Note}

-- a vector of notes, whose `alloc` says whether the notes are kept
abbrev pub Noted : Type 0
Noted = Vec Note Bool

-- the notes are kept
abbrev pub are_kept : Noted → Bool
are_kept n = n.alloc

-- the notes of `v`, kept or not
abbrev pub noted : {A : Type 0} → Vec Note A → Bool → Noted
noted v kept = record { ptr = v.ptr; len = v.len; cap = v.cap; alloc = kept; items = v.items; ok = v.ok; small = v.small }
