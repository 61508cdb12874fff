-- The nacks that a client reads in an output, and the publishes that they confirm (RabbitMQ, "Publisher Confirms", basic.nack).
use Rattle.std.specs.Prelude.{◌≡◌, ℕ, List, [], ◌∷◌, take, drop, filter_map, flat_map, Bool, false, Option, Some, None, ◌==◌, ◌&&◌, if◌then◌else◌}
use Rattle.std.specs.Int.{w64, from_be_bytes}
use Rattle.std.specs.List.{list_any}
use Rattle.std.specs.Str.{bytes_eq}
use Rattle.model.specs.Frames.{Frame}
use Rattle.model.specs.Run.{Happening}
use Rattle.model.specs.Acks.{first_bit, IsReading, acked, HasAcksOf}
use Rattle.model.specs.declared.notes.Note.{Note}
use Rattle.model.specs.declared.notes.Note.TheVariants.{Published, Confirmed}
use Rattle.model.specs.declared.notes.Answer.TheVariants as answer

-- ---- what a client reads

-- A nack as a client reads it: its channel, its number, and whether it is of all publishes up to this number.
pub record Nack : Type 0 where
  pub channel : ℕ
  pub number : ℕ
  pub multiple : Bool

-- The nack that the frame carries, if it is a method frame whose payload begins with class 60, method 120 (RabbitMQ, basic.nack: delivery-tag, multiple).
abbrev pub nack_in : Frame → Option Nack
nack_in f =
    if f.kind == 1 && bytes_eq (take 4 f.payload) (0 ∷ 60 ∷ 0 ∷ 120 ∷ [])
    then Some (record { channel = f.channel; number = from_be_bytes w64 (take 8 (drop 4 f.payload)); multiple = first_bit f.payload 12 })
    else None

-- The nacks among the frames, in order.
abbrev pub nacks_in : List Frame → List Nack
nacks_in fs = filter_map nack_in fs

-- ---- what the notes say

-- Whether the note confirms publish `n` by nack.
abbrev pub is_nack_of : ℕ → Note → Bool
is_nack_of n (Confirmed m answer.Nack) = m == n
is_nack_of n note = false

-- The nack for exactly the publish that the note records, if it came on connection `c`, has a confirm number, and is confirmed by nack in `notes`.
abbrev pub nack_as : ℕ → List Note → Note → Option Nack
nack_as c notes (Published n d h x key (Some m)) =
    if d == c && list_any (is_nack_of n) notes then Some (record { channel = h; number = m; multiple = false }) else None
nack_as c notes note = None

-- The nacks of the publishes of connection `c` that the event `h` confirms by nack, in the order of its notes.
abbrev pub nacks_at : ℕ → Happening → List Nack
nacks_at c h = filter_map (nack_as c h.notes) h.notes

-- The nacks of the publishes of connection `c` that the events `hs` confirm by nack, in order.
abbrev pub nacks_of : ℕ → List Happening → List Nack
nacks_of c hs = flat_map (nacks_at c) hs

-- The nacks that a client reads in `output` are exactly those of `due`, in order.
pub record HasNacks (due : List Nack) (output : List ℕ) : Type 0 where
  pub frames : List Frame
  pub reading : IsReading output frames
  pub nacks : nacks_in frames ≡ due

-- The acks and nacks that a client reads in `output` are those of the publishes of connection `c` that the events `hs` confirm by ack and by nack.
pub record Confirms (c : ℕ) (hs : List Happening) (output : List ℕ) : Type 0 where
  pub acks : HasAcksOf (acked c hs) output
  pub nacks : HasNacks (nacks_of c hs) output
