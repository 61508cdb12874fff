-- What is recorded of a run while it goes on.
use Rattle.std.specs.Prelude.{◌≡◌, ◌+◌, ◌-◌, ◌≤◌, ℕ, zero, suc, List, [], ◌∷◌, ◌++◌, length, true, false, ◌==◌, if◌then◌else◌, Some, slice_get, unwrap_or}
use Rattle.model.specs.Run.{put_out}
use Rattle.model.specs.History.{Occurrence, events_of, notes_over}
use Rattle.model.specs.Arrivals.{World, Shown, Seen, is_over}
use Rattle.model.specs.Consistent.{IsConsistent}

-- ---- connections by number

-- a number that was never given: it has no output and is over
abbrev pub never_given : Shown
never_given = record { output = []; is_over = true }

-- the connection with this number; they count from 1
abbrev pub shown_of : List Shown → ℕ → Shown
shown_of connections c = if c == 0 then never_given else unwrap_or (slice_get connections (c - 1)) never_given

-- what is recorded of the output of the connection at this index
abbrev pub taken_at : List Shown → ℕ → List ℕ
taken_at [] i = []
taken_at (s ∷ ss) zero = s.output
taken_at (s ∷ ss) (suc i) = taken_at ss i

-- `bytes` are appended to the output of the connection at this index
abbrev pub gathered_at : List Shown → ℕ → List ℕ → List Shown
gathered_at [] i bytes = []
gathered_at (s ∷ ss) zero bytes = record s { output = s.output ++ bytes } ∷ ss
gathered_at (s ∷ ss) (suc i) bytes = s ∷ gathered_at ss i bytes

-- `connections`, with `bytes` appended to the output of connection `c`; unchanged if no connection has that number
abbrev pub gathered : List Shown → ℕ → List ℕ → List Shown
gathered connections c bytes = if c == 0 then connections else gathered_at connections (c - 1) bytes

-- one more connection, without output
abbrev pub with_opened : List Shown → List Shown
with_opened connections = connections ++ record { output = []; is_over = false } ∷ []

-- ---- the records are what happened

-- numbers that were not given are over, and have no output
abbrev pub AreUnopened : World → Type 0
AreUnopened w = (i : ℕ) → w.given ≤ i → ((w.wire (i + 1)).output ≡ []) × (is_over w (i + 1) ≡ true)

-- `seen` has the notes of the occurrences `os`. For each connection, its bytes in `seen` and those left in its output are together all that was put
-- out. The world is consistent.
pub record Records (os : List Occurrence) (w : World) (seen : Seen) : Type 0 where
  pub noted : seen.notes ≡ notes_over os
  pub counted : length seen.connections ≡ w.given
  pub each : (i : ℕ) → taken_at seen.connections i ++ (w.wire (i + 1)).output ≡ put_out (i + 1) (events_of os)
  pub unopened : AreUnopened w
  pub consistent : IsConsistent w

-- What happened from `old` to `new`, `os`, was recorded behind what `seen` had recorded before.
pub record RecordsEvents (old : World) (seen : Seen) (os : List Occurrence) (new : World) (after : Seen) : Type 0 where
  pub keeps : (done : List Occurrence) → Records done old seen → Records (done ++ os) new after

-- ---- the end

-- all that was put out for the connection with this number, including what is left
abbrev pub finished : World → ℕ → Shown → Shown
finished w c s = record { output = s.output ++ (w.wire c).output; is_over = is_over w c }

-- `new` has for each connection all that was put out for it, including what is left (`finished`)
pub record AreFinished (w : World) (old new : List Shown) : Type 0 where
  pub counted : length new ≡ length old
  pub each : (i : ℕ) (s : Shown) → slice_get old i ≡ Some s → slice_get new i ≡ Some (finished w (i + 1) s)
