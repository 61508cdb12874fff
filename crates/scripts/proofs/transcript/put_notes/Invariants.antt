use Rattle.std.proofs.Common.{◌≡◌, ◌++◌, drop}
use Rattle.scripts.specs.Transcript.{note_lines}
use Rattle.scripts.proofs.transcript.put_notes.Given as goal

abbrev pub invariant-loop-note : goal.invariant-loop-note
invariant-loop-note l = l.text.items ++ note_lines (drop l.note-index l.notes) ≡ l.fn.text.items ++ note_lines l.notes
