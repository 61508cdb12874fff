-- Printed transcripts (own): the output of each connection, then the notes, a line each.
use Rattle.std.specs.Prelude.{◌+◌, ◌++◌, ℕ, List, [], ◌∷◌, Option, Some, None, codes, if◌then◌else◌, decimal}
use Rattle.std.specs.Str.Lossy.{utf8_lossy}
use Rattle.serde_json.specs.Data.{string}
use Rattle.serde_json.specs.Written.{compact_text}
use Rattle.hex.specs.Hex.{encode_lower}
use Rattle.model.specs.Words.{Text}
use Rattle.model.specs.Arrivals.{Shown, Seen}
use Rattle.model.specs.declared.notes.Note.{Note}
use Rattle.model.specs.declared.notes.Note.TheVariants.{Published, Entered, Refused, Returned, Confirmed, Left, Reloaded, ReloadRefused}
use Rattle.model.specs.declared.obstacles.Obstacle.{Obstacle}
use Rattle.model.specs.declared.obstacles.Obstacle.TheVariants.{InUse, Breaks}
use Rattle.model.specs.declared.notes.Answer.{Answer}
use Rattle.model.specs.declared.notes.Answer.TheVariants.{Ack, Nack}
use Rattle.model.specs.declared.notes.Way.{Way}
use Rattle.model.specs.declared.notes.Way.TheVariants.{Publish, Dead}
use Rattle.model.specs.declared.notes.Cause.{Cause}
use Rattle.model.specs.declared.notes.Cause.TheVariants.{Acked, Auto, Rejected, Purged}

-- ---- words

-- bytes in lower-case hex, or `-` if there are none
abbrev pub hex_word : Text → Text
hex_word [] = codes "-"
hex_word (b ∷ bs) = encode_lower (b ∷ bs)

-- a name as a compact JSON string; each sequence that is not UTF-8 becomes U+FFFD
abbrev pub name_word : Text → Text
name_word name = compact_text (string (utf8_lossy name))

-- a confirm's number, or `-` outside confirm mode
abbrev pub confirm_word : Option ℕ → Text
confirm_word None = codes "-"
confirm_word (Some n) = decimal n

-- how a publish was confirmed
abbrev pub answer_word : Answer → Text
answer_word Ack = codes "ack"
answer_word Nack = codes "nack"

-- how a message entered a queue
abbrev pub way_word : Way → Text
way_word Publish = codes "publish"
way_word Dead = codes "dead"

-- why a message left a queue
abbrev pub cause_word : Cause → Text
cause_word Acked = codes "acked"
cause_word Auto = codes "auto"
cause_word Rejected = codes "rejected"
cause_word Purged = codes "purged"

-- ---- lines

-- each word after a space, and the end of the line
abbrev pub more_words : List Text → Text
more_words [] = 10 ∷ []
more_words (w ∷ ws) = 32 ∷ (w ++ more_words ws)

-- a line of words, separated by single spaces
abbrev pub line : List Text → Text
line [] = 10 ∷ []
line (w ∷ ws) = w ++ more_words ws

-- the line of a reload that an obstacle stops; a guarantee is given by its number, counted from 1
abbrev pub obstacle_line : Obstacle → Text
obstacle_line (InUse queue) = line (codes "reload refused in-use" ∷ name_word queue ∷ [])
obstacle_line (Breaks queue key guarantee) = line (codes "reload refused breaks" ∷ name_word queue ∷ hex_word key ∷ decimal guarantee ∷ [])

-- the line of a publish: its number, its connection and its channel, and then `rest`
abbrev pub publish_line : ℕ → ℕ → ℕ → Text → Text
publish_line n c h rest = codes "published" ++ 32 ∷ (decimal n ++ 32 ∷ (decimal c ++ 32 ∷ (decimal h ++ 32 ∷ rest)))

-- the line of a note
abbrev pub note_line : Note → Text
note_line (Published n c h exchange key confirm) = line (codes "published" ∷ decimal n ∷ decimal c ∷ decimal h
    ∷ name_word exchange ∷ hex_word key ∷ confirm_word confirm ∷ [])
note_line (Entered n queue way) = line (codes "entered" ∷ decimal n ∷ name_word queue ∷ way_word way ∷ [])
note_line (Refused n queue) = line (codes "refused" ∷ decimal n ∷ name_word queue ∷ [])
note_line (Returned n) = line (codes "returned" ∷ decimal n ∷ [])
note_line (Confirmed n answer) = line (codes "confirmed" ∷ decimal n ∷ answer_word answer ∷ [])
note_line (Left n queue cause) = line (codes "left" ∷ decimal n ∷ name_word queue ∷ cause_word cause ∷ [])
note_line Reloaded = line (codes "reload done" ∷ [])
note_line (ReloadRefused obstacle) = obstacle_line obstacle

-- the line `over` of a connection that is over or lost
abbrev pub over_line : ℕ → Shown → Text
over_line c s = if s.is_over then line (codes "over" ∷ decimal c ∷ []) else []

-- the lines of connection `c`
abbrev pub shown_lines : ℕ → Shown → Text
shown_lines c s = line (codes "out" ∷ decimal c ∷ hex_word s.output ∷ []) ++ over_line c s

-- ---- the whole

-- the lines of connections numbered from `c`
abbrev pub shown_from : ℕ → List Shown → Text
shown_from c [] = []
shown_from c (s ∷ ss) = shown_lines c s ++ shown_from (c + 1) ss

-- a line for each note
abbrev pub note_lines : List Note → Text
note_lines [] = []
note_lines (n ∷ ns) = note_line n ++ note_lines ns

-- the connections by number, then the notes in their order
abbrev pub transcript_text : Seen → Text
transcript_text seen = shown_from 1 seen.connections ++ note_lines seen.notes
