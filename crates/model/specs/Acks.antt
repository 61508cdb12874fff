-- The acks that a client reads in an output, and the publishes that they confirm (AMQP 0-9-1, basic.ack; RabbitMQ, "Publisher Confirms").
use Rattle.std.specs.Prelude.{
  ◌≡◌,
  ◌%◌,
  ◌⊎◌,
  ℕ,
  List,
  [],
  ◌∷◌,
  take,
  drop,
  map,
  filter_map,
  flat_map,
  count_by,
  Bool,
  false,
  Option,
  Some,
  None,
  ◌==◌,
  ◌&&◌,
  if◌then◌else◌,
  Contains,
  slice_index_or,
}
use Rattle.std.specs.Int.{w64, from_be_bytes}
use Rattle.std.specs.List.{list_any}
use Rattle.std.specs.Str.{bytes_eq}
use Rattle.model.specs.Words.{Text}
use Rattle.model.specs.Guarantee.{Guarantee, Covers}
use Rattle.model.specs.Frames.{Frame, AreFrames}
use Rattle.model.specs.Spelling.{eight_bytes}
use Rattle.model.specs.Run.{Happening}
use Rattle.model.specs.declared.topologies.Mode.TheVariants.{Reaches}
use Rattle.model.specs.declared.notes.Note.{Note}
use Rattle.model.specs.declared.notes.Note.TheVariants.{Published, Entered, Confirmed}
use Rattle.model.specs.declared.notes.Answer.TheVariants as answer
use Rattle.model.specs.declared.notes.Way.TheVariants as way

-- ---- what a client reads

-- An ack as a client reads it: its channel, its number, and whether it acknowledges all publishes up to this number.
pub record Ack : Type 0 where
  pub channel : ℕ
  pub number : ℕ
  pub multiple : Bool

-- Whether the lowest bit of the byte at index `at` is set; a byte that is not there counts as 0.
abbrev pub first_bit : List ℕ → ℕ → Bool
first_bit bytes at = slice_index_or bytes at 0 % 2 == 1

-- The ack that the frame carries, if it is a method frame whose payload begins with class 60, method 80 (AMQP 0-9-1, basic.ack: delivery-tag, multiple).
abbrev pub ack_in : Frame → Option Ack
ack_in f =
    if f.kind == 1 && bytes_eq (take 4 f.payload) (0 ∷ 60 ∷ 0 ∷ 80 ∷ [])
    then Some (record { channel = f.channel; number = from_be_bytes w64 (take 8 (drop 4 f.payload)); multiple = first_bit f.payload 12 })
    else None

-- The acks among the frames, in order.
abbrev pub acks_in : List Frame → List Ack
acks_in fs = filter_map ack_in fs

-- A client reads `output` as `frames`, of at most 131,072 bytes each. If `output` is the protocol header alone, eight bytes, it has no frame.
abbrev pub IsReading : List ℕ → List Frame → Type 0
IsReading output frames = AreFrames 131072 output frames ⊎ ((output ≡ eight_bytes) × (frames ≡ []))

-- ---- what the notes say

-- A publish that was confirmed by ack: its publish number, channel, exchange and key, and its confirm number.
pub record Acked : Type 0 where
  pub number : ℕ
  pub channel : ℕ
  pub exchange : Text
  pub key : Text
  pub confirm : ℕ
  -- The guarantees in force at its event.
  pub guarantees : List Guarantee

-- Whether the note confirms publish `n` by ack.
abbrev pub is_ack_of : ℕ → Note → Bool
is_ack_of n (Confirmed m answer.Ack) = m == n
is_ack_of n note = false

-- The publish that the note records, if it came on connection `c`, has a confirm number, and is confirmed by ack in `notes`.
abbrev pub acked_as : List Guarantee → ℕ → List Note → Note → Option Acked
acked_as gs c notes (Published n d h x key (Some m)) =
    if d == c && list_any (is_ack_of n) notes then Some (record { number = n; channel = h; exchange = x; key = key; confirm = m; guarantees = gs }) else None
acked_as gs c notes note = None

-- The publishes of connection `c` that the event `h` confirms by ack, in the order of its notes.
abbrev pub acked_at : ℕ → Happening → List Acked
acked_at c h = filter_map (acked_as h.config.guarantees c h.notes) h.notes

-- The publishes of connection `c` that the events `hs` confirm by ack, in order.
abbrev pub acked : ℕ → List Happening → List Acked
acked c hs = flat_map (acked_at c) hs

-- The ack that confirms the publish `p` alone.
abbrev pub ack_for : Acked → Ack
ack_for p = record { channel = p.channel; number = p.confirm; multiple = false }

-- The acks that a client reads in `output` are those of the publishes `ps`, one for one, in order.
pub record HasAcksOf (ps : List Acked) (output : List ℕ) : Type 0 where
  pub frames : List Frame
  pub reading : IsReading output frames
  pub acks : acks_in frames ≡ map ack_for ps

-- Whether the note says that publish `n` entered the queue `q` as a publish, not as a dead letter.
abbrev pub is_publish_into : ℕ → Text → Note → Bool
is_publish_into n q (Entered m r way.Publish) = (m == n) && bytes_eq r q
is_publish_into n q note = false

-- By `notes`, the acked publish `p` entered every queue that a `Reaches` guarantee of `p.guarantees` promises for its exchange and key, exactly once.
abbrev pub EnteredOnce : List Note → Acked → Type 0
EnteredOnce notes p = (g : Guarantee) → Contains p.guarantees g → g.mode ≡ Reaches → Covers g p.exchange p.key
    → count_by (is_publish_into p.number g.queue) notes ≡ 1
