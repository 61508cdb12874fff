-- Replay scripts (own): lines of text, one event each. A connection is named by its number, counted from 1 in the order of the openings.
use Rattle.std.specs.Prelude.{◌≡◌, ◌+◌, ◌-◌, ◌*◌, ◌^◌, ◌++◌, ◌==◌, ◌&&◌, ◌||◌, nat_lt, nat_le, ℕ, List, [], ◌∷◌, length, take, drop}
use Rattle.std.specs.Prelude.{position, codes, Option, Some, None, option_map, option_and_then, is_some, Result, Ok, Err, if◌then◌else◌}
use Rattle.std.specs.Str.{bytes_eq, is_utf8}
use Rattle.hex.specs.Hex.{decode_of}
use Rattle.model.specs.Words.{Text, parted}
use Rattle.model.specs.declared.events.Arrival.{Arrival}
use Rattle.model.specs.declared.events.Arrival.TheVariants.{Open, Ready, In, Sent, Pump, Lose, Reload}
use Rattle.scripts.specs.FileNames.{FileNames}
use Rattle.scripts.specs.declared.script.BadScript.{BadScript}
use Rattle.scripts.specs.declared.script.BadScript.TheVariants.{Line, Memory}

-- an event that a script brings; a reload names its files
abbrev pub ScriptArrival : Type 0
ScriptArrival = Arrival FileNames

-- ---- fields

-- the text before the first space, and the text after it; `None` if there is no space
abbrev pub cut : Text → Option (Text × Text)
cut text = option_map (λ place. (take place text, drop (place + 1) text)) (position (λ b. b == 32) text)

-- the number with the decimal digits of `n` and then the digit `b`, if it is below 2^64
abbrev pub with_digit : ℕ → ℕ → Option ℕ
with_digit n b = if nat_le 48 b && nat_le b 57 && nat_lt (n * 10 + (b - 48)) (2 ^ 64) then Some (n * 10 + (b - 48)) else None

-- the number with the decimal digits of `n` and then those of the text, if it is below 2^64
abbrev pub digits_after : ℕ → Text → Option ℕ
digits_after n [] = Some n
digits_after n (b ∷ bs) = option_and_then (λ next. digits_after next bs) (with_digit n b)

-- the number that a field writes in decimal digits, without leading zeros
abbrev pub number : Text → Option ℕ
number [] = None
number (b ∷ bs) = if b == 48 && nat_lt 0 (length bs) then None else digits_after 0 (b ∷ bs)

-- the value of a success; `None` for an error
abbrev pub ok_of : {X E : Type 0} → Result X E → Option X
ok_of (Ok x) = Some x
ok_of (Err e) = None

-- the bytes that a field writes in hex of either case, at least one
abbrev pub piece : Text → Option Text
piece [] = None
piece (b ∷ bs) = ok_of (decode_of (b ∷ bs))

-- the file's name that a field writes: UTF-8, at least one byte, no space
abbrev pub file_name : Text → Option Text
file_name field = if length field == 0 || is_some (cut field) then None else if is_utf8 field then Some field else None

-- ---- lines, with `opened` connections opened before

-- the most connections that a script opens
abbrev pub most_openings : ℕ
most_openings = 1024

-- the most channels that a `ready` line opens
abbrev pub most_ready : ℕ
most_ready = 255

-- `open`: a connection from which no byte has come
abbrev pub opening : ℕ → Option ScriptArrival
opening opened = if nat_lt opened most_openings then Some Open else None

-- `ready K`: a connection that is running, with channels 1 to K open
abbrev pub ready : ℕ → Text → Option ScriptArrival
ready opened k = option_and_then (λ n. if nat_le 1 n && nat_le n most_ready && nat_lt opened most_openings then Some (Ready n) else None) (number k)

-- the number of a connection, from 1 to `opened`
abbrev pub connection : ℕ → Text → Option ℕ
connection opened c = option_and_then (λ n. if nat_le 1 n && nat_le n opened then Some n else None) (number c)

-- `in C HEX`: a piece of bytes from connection C
abbrev pub bytes_in : ℕ → Text × Text → Option ScriptArrival
bytes_in opened f = option_and_then (λ c. option_map (λ bytes. In c bytes) (piece f.1)) (connection opened f.0)

-- `sent C N`: N bytes of connection C's output are taken
abbrev pub sent : ℕ → Text × Text → Option ScriptArrival
sent opened f = option_and_then (λ c. option_map (λ n. Sent c n) (number f.1)) (connection opened f.0)

-- `lose C`: connection C is lost
abbrev pub lost : ℕ → Text → Option ScriptArrival
lost opened c = option_map (λ n. Lose n) (connection opened c)

-- the names of three files, a field each
abbrev pub names_of : Text → Text → Text → Option FileNames
names_of d g c =
    option_and_then (λ definitions. option_and_then (λ guarantees. option_map (λ certificates.
    record { definitions = definitions; guarantees = guarantees; certificates = certificates })
    (file_name c)) (file_name g)) (file_name d)

-- the names of three files, separated by single spaces; the third extends to the end of the line
abbrev pub three_names : Text → Option FileNames
three_names fields = option_and_then (λ f. option_and_then (λ more. names_of f.0 more.0 more.1) (cut f.1)) (cut fields)

-- `reload DEFS GUARANTEES CERTS`: the topology in these files is to be loaded
abbrev pub reload : Text → Option ScriptArrival
reload fields = option_map (λ names. Reload names) (three_names fields)

-- the event of a line whose first field is `f.0`, and whose other fields are `f.1`
abbrev pub by_word : ℕ → Text × Text → Option ScriptArrival
by_word opened f =
    if bytes_eq f.0 (codes "ready") then ready opened f.1 else
    if bytes_eq f.0 (codes "in") then option_and_then (bytes_in opened) (cut f.1) else
    if bytes_eq f.0 (codes "sent") then option_and_then (sent opened) (cut f.1) else
    if bytes_eq f.0 (codes "lose") then lost opened f.1 else
    if bytes_eq f.0 (codes "reload") then reload f.1 else
    None

-- the event of a line that is not skipped; `pump` delivers a message if one can be delivered
abbrev pub arrival_of : ℕ → Text → Option ScriptArrival
arrival_of opened l =
    if bytes_eq l (codes "open") then opening opened else
    if bytes_eq l (codes "pump") then Some Pump else
    option_and_then (by_word opened) (cut l)

-- A line is skipped, brings an event, or is at fault (`None`). Empty lines and lines that begin with `#` are skipped.
abbrev pub line_of : ℕ → Text → Option (Option ScriptArrival)
line_of opened [] = Some None
line_of opened (b ∷ bs) = if b == 35 then Some None else option_map (λ a. Some a) (arrival_of opened (b ∷ bs))

-- ---- the whole script

-- the lines of a text; LF ends a line
abbrev pub lines : Text → List Text
lines text = parted 10 text

-- the number of connections opened after a line
abbrev pub opened_after : ℕ → Option (Option ScriptArrival) → ℕ
opened_after opened (Some (Some Open)) = opened + 1
opened_after opened (Some (Some (Ready k))) = opened + 1
opened_after opened line = opened

-- `found` followed by the events of the other lines, or the number of the first of those at fault
abbrev pub onto_arrivals : List ScriptArrival → Result (List ScriptArrival) ℕ → Result (List ScriptArrival) ℕ
onto_arrivals found (Ok rest) = Ok (found ++ rest)
onto_arrivals found (Err number) = Err number

-- the events of line `number` and of the lines after it, or the number of the first one at fault
abbrev pub with_line : ℕ → Option (Option ScriptArrival) → Result (List ScriptArrival) ℕ → Result (List ScriptArrival) ℕ
with_line number None rest = Err number
with_line number (Some None) rest = rest
with_line number (Some (Some a)) rest = onto_arrivals (a ∷ []) rest

-- the events of lines numbered from `number`, or the number of the first line at fault
abbrev pub arrivals_from : ℕ → ℕ → List Text → Result (List ScriptArrival) ℕ
arrivals_from number opened [] = Ok []
arrivals_from number opened (l ∷ ls) = with_line number (line_of opened l) (arrivals_from (number + 1) (opened_after opened (line_of opened l)) ls)

-- the events of a script, or the number of its first line at fault, counted from 1
abbrev pub script : Text → Result (List ScriptArrival) ℕ
script text = arrivals_from 1 0 (lines text)

-- ---- what a reader returns

-- the refusal `Line n` means that line `n` is the first at fault; an allocation failure promises nothing
abbrev pub RefusesScript : BadScript → Result (List ScriptArrival) ℕ → Type 0
RefusesScript (Line n) said = said ≡ Err n
RefusesScript Memory said = Unit {0}
