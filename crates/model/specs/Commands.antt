-- The commands in the bytes of one connection: frames, and contents put together per channel. Start with `Yields`
-- and `Ends`. Source: AMQP 0-9-1, section 4.2.6, "Content Framing", and section 2.3.5, "Frame Details".
use Rattle.std.specs.Prelude.{
  ◌≡◌,
  ◌≤◌,
  ◌<◌,
  ℕ,
  List,
  [],
  ◌∷◌,
  ◌++◌,
  length,
  Bool,
  true,
  false,
  nat_lt,
  ◌==◌,
  ◌+◌,
  ◌&&◌,
  ◌||◌,
  not,
  if◌then◌else◌,
  Option,
  Some,
  None,
  Result,
  Ok,
  Err,
  MatchBool,
}
use Rattle.model.specs.Words.{Text}
use Rattle.model.specs.Broker.{with_one}
use Rattle.model.specs.Frames.{Frame, Begins, IsBroken}
use Rattle.model.specs.Grammar.{IsMethod, SaysMethod}
use Rattle.model.specs.Headers.{Header, AreProperties, header_bytes, SaysSize, SaysHeader}
use Rattle.model.specs.declared.contents.Content.{Content}
use Rattle.model.specs.declared.contents.Fields.{Fields as Properties}
use Rattle.model.specs.declared.events.Command.{Command}
use Rattle.model.specs.declared.events.Command.TheVariants.{Head, Plain, Full, TooLarge}
use Rattle.model.specs.declared.methods.Publish.{Publish}
use Rattle.model.specs.declared.methods.Method.{Method}
use Rattle.model.specs.declared.methods.Method.TheVariants.{BasicPublish}

-- ---- one frame

-- The part of a command that a channel has read while the rest is awaited.
pub data Pending : Type 0 where
  -- A method is awaited.
  Nothing : Pending
  -- A publish was read, and its content header is awaited.
  Wants_header : (publish : Publish) → Pending
  -- The header declared a body of `size` bytes, of which `body` was read.
  Wants_body : (publish : Publish) (properties : Properties) (size : ℕ) (body : Text) → Pending
  -- The header declared a body of `size` bytes that is not kept, of which `count` bytes were dropped.
  Drops : (size : ℕ) (count : ℕ) → Pending

-- The largest body that is accepted, in bytes (own).
abbrev pub most_body : ℕ
most_body = 1048576

-- The largest payload of a content header that is accepted, in bytes (own).
abbrev pub most_header : ℕ
most_header = 3400

-- Whether a content is too large, by the `payload` of its header and the body `size` that this declares (own).
abbrev pub is_too_large : List ℕ → ℕ → Bool
is_too_large payload size = nat_lt most_body size || nat_lt most_header (length payload)

-- The content is not too large: its properties have a spelling, its body has at most `most_body` bytes, and the payload of its header at most `most_header`.
pub record IsWithin (content : Content) : Type 0 where
  pub properties : AreProperties content.properties
  pub body : length content.body ≤ most_body
  pub header : length (header_bytes (length content.body) content.properties) ≤ most_header

-- The content, if there is one, is not too large.
abbrev pub HasWithin : Option Content → Type 0
HasWithin None = Unit {0}
HasWithin (Some content) = IsWithin content

-- What a frame does: its channel goes on with `pending`, a command is complete, or the stream breaks with a reply code.
pub data Taken : Type 0 where
  Goes_on : (pending : Pending) → Taken
  Makes : (command : Command) → Taken
  Breaks : (code : ℕ) → Taken

-- A publish with empty texts, which is kept in place of a publish whose content is only counted.
abbrev pub no_publish : Publish
no_publish = record { reserved = 0; exchange = []; routing_key = []; mandatory = false; immediate = false }

-- What is kept of a publish until its content is complete: the publish, or nothing of it if contents are not kept (own).
abbrev pub kept_publish : Bool → Publish → Publish
kept_publish true p = p
kept_publish false p = no_publish

-- What the method of a frame does: a publish waits for its content, any other method is a command, and a refused payload breaks the stream.
abbrev pub taken_method : Bool → ℕ → Result Method ℕ → Taken
taken_method keeps h (Ok (BasicPublish p)) = Goes_on (Wants_header (kept_publish keeps p))
taken_method keeps h (Ok m) = Makes (Plain h m)
taken_method keeps h (Err code) = Breaks code

-- What happens once `body` is all that was read of a body: if it has more than the declared `size`,
-- the frame is an error, 501, and if it has exactly that size, the publish is complete.
abbrev pub taken_body : ℕ → Publish → Properties → ℕ → Text → Taken
taken_body h p properties size body =
    if nat_lt size (length body) then Breaks 501
    else if length body == size then Makes (Full h p (record { properties = properties; body = body }))
    else Goes_on (Wants_body p properties size body)

-- The same as `taken_body` for a body that is not kept, of which `count` bytes were dropped: once complete, the publish counts as too large.
abbrev pub taken_dropped : ℕ → ℕ → ℕ → Taken
taken_dropped h size count =
    if nat_lt size count then Breaks 501
    else if count == size then Makes (TooLarge h)
    else Goes_on (Drops size count)

-- What a header does, before any byte of its body: the body is awaited, or only
-- counted if contents are not kept, as that of a content that is too large (own).
abbrev pub begun_body : Bool → ℕ → Publish → Header → Taken
begun_body true h p header = taken_body h p header.properties header.size []
begun_body false h p header = taken_dropped h header.size 0

-- What a header does: its body is awaited, the publish is complete if no body is declared, and a refused header breaks the stream.
abbrev pub taken_header : Bool → ℕ → Publish → Result Header ℕ → Taken
taken_header keeps h p (Ok header) = begun_body keeps h p header
taken_header keeps h p (Err code) = Breaks code

-- What one more `piece` of a body does: it is appended, or, if contents are no longer kept, it and all before it are dropped (own).
abbrev pub taken_piece : Bool → ℕ → Publish → Properties → ℕ → Text → List ℕ → Taken
taken_piece true h p properties size body piece = taken_body h p properties size (body ++ piece)
taken_piece false h p properties size body piece = taken_dropped h size (length body + length piece)

-- The frame type that a channel awaits: 1 for a method, 2 for a header, 3 for a body.
abbrev pub awaited : Pending → ℕ
awaited Nothing = 1
awaited (Wants_header p) = 2
awaited (Wants_body p properties size body) = 3
awaited (Drops size count) = 3

-- What a header frame does once its size is read: of a content that is too large neither flags nor properties are read, and a refused size breaks the stream.
abbrev pub TakesSized : Bool → Publish → Frame → Result ℕ ℕ → Taken → Type 0
TakesSized keeps p f (Ok size) taken =
    MatchBool (is_too_large f.payload size) (taken ≡ taken_dropped f.channel size 0)
    ((r : Result Header ℕ) × SaysHeader f.payload r × (taken ≡ taken_header keeps f.channel p r))
TakesSized keeps p f (Err code) taken = taken ≡ Breaks code

-- What a frame of the awaited type does; `keeps` says whether contents are kept.
abbrev pub TakesPayload : Bool → Pending → Frame → Taken → Type 0
TakesPayload keeps Nothing f taken = (r : Result Method ℕ) × SaysMethod f.payload r × (taken ≡ taken_method keeps f.channel r)
TakesPayload keeps (Wants_header p) f taken = (r : Result ℕ ℕ) × SaysSize f.payload r × TakesSized keeps p f r taken
TakesPayload keeps (Wants_body p properties size body) f taken = taken ≡ taken_piece keeps f.channel p properties size body f.payload
TakesPayload keeps (Drops size count) f taken = taken ≡ taken_dropped f.channel size (count + length f.payload)

-- What a heartbeat does: it is ignored if it is on channel 0 and empty, and otherwise breaks the stream with 501 (own).
abbrev pub taken_heartbeat : Pending → Frame → Taken
taken_heartbeat p f = if f.channel == 0 && length f.payload == 0 then Goes_on p else Breaks 501

-- Whether the frame is on a channel above 255, or on channel 0 and not a method.
abbrev pub is_on_wrong_channel : Frame → Bool
is_on_wrong_channel f = nat_lt 255 f.channel || (f.channel == 0 && not (f.kind == 1))

-- What a whole frame does, decided in this order: heartbeat, 504 channel-error, 505 unexpected-frame, and then its payload.
abbrev pub TakesOn : Bool → Pending → Frame → Taken → Type 0
TakesOn keeps p f taken =
    MatchBool (f.kind == 8) (taken ≡ taken_heartbeat p f)
    (MatchBool (is_on_wrong_channel f) (taken ≡ Breaks 504)
    (MatchBool (f.kind == awaited p) (TakesPayload keeps p f taken) (taken ≡ Breaks 505)))

-- ---- a whole stream

-- The bytes of one connection that are still to be read, and how far its frames and commands were read.
pub record Stream : Type 0 where
  -- Whether the first eight bytes are awaited, which come before all frames.
  pub is_new : Bool
  -- The largest frame, in bytes.
  pub max : ℕ
  -- Whether contents are kept: they are if the connection runs. In any other phase no publish can be performed, so contents are only counted (own).
  pub keeps : Bool
  pub pending : ℕ → Pending
  pub unread : List ℕ

-- What a channel has begun after a frame: nothing if the frame completes a command or breaks the stream.
abbrev pub pending_after : Taken → Pending
pending_after (Goes_on p) = p
pending_after (Makes c) = Nothing
pending_after (Breaks code) = Nothing

-- The stream after a frame of channel `h` was read; `rest` is unread.
abbrev pub after_frame : Stream → ℕ → Taken → List ℕ → Stream
after_frame s h taken rest = record s { pending = with_one s.pending h (pending_after taken); unread = rest }

-- The first eight bytes of the stream are `bytes`; in `next` they are read, and frames are awaited.
pub record TakesFirst (s : Stream) (bytes : Text) (next : Stream) : Type 0 where
  pub awaited : s.is_new ≡ true
  pub rest : List ℕ
  pub front : s.unread ≡ bytes ++ rest
  pub size : length bytes ≡ 8
  pub left : next ≡ record s { is_new = false; unread = rest }

-- The next frame of the stream does `taken`, and leaves the stream `next`.
pub record Takes (s : Stream) (taken : Taken) (next : Stream) : Type 0 where
  pub begun : s.is_new ≡ false
  pub frame : Frame
  pub rest : List ℕ
  pub front : Begins s.max s.unread frame rest
  pub effect : TakesOn s.keeps (s.pending frame.channel) frame taken
  pub left : next ≡ after_frame s frame.channel taken rest

-- The next command of the stream, after frames that complete none, and the stream after it.
pub data Yields : Stream → Command → Stream → Type 0 where
  first : {s next : Stream} {bytes : Text} → TakesFirst s bytes next → Yields s (Head bytes) next
  now : {s next : Stream} {c : Command} → Takes s (Makes c) next → Yields s c next
  later : {s mid next : Stream} {p : Pending} {c : Command} → Takes s (Goes_on p) mid → Yields mid c next → Yields s c next

-- No further command can be read from the stream. After frames that complete none, it has fewer than the first
-- eight bytes, or no whole frame (`None`), or a fault with this reply code is next (`Some`).
pub data Ends : Stream → Option ℕ → Type 0 where
  early : {s : Stream} → s.is_new ≡ true → length s.unread < 8 → Ends s None
  short : {s : Stream} → s.is_new ≡ false → ((f : Frame) (rest : List ℕ) → Begins s.max s.unread f rest → ⊥) → (IsBroken s.max s.unread → ⊥) → Ends s None
  broken : {s : Stream} → s.is_new ≡ false → IsBroken s.max s.unread → Ends s (Some 501)
  faulty : {s next : Stream} {code : ℕ} → Takes s (Breaks code) next → Ends s (Some code)
  beyond : {s mid : Stream} {p : Pending} {o : Option ℕ} → Takes s (Goes_on p) mid → Ends mid o → Ends s o

-- Reading any number of frames that complete no command leads from the first stream to the second: the same commands are still to come.
pub data GoesOn : Stream → Stream → Type 0 where
  stays : {s : Stream} → GoesOn s s
  goes : {s mid new : Stream} {p : Pending} → Takes s (Goes_on p) mid → GoesOn mid new → GoesOn s new

-- The commands `cs` are all that the stream has, and `end` is how it ends: by a fault with this reply code, or by none.
abbrev pub Commands : Stream → List Command → Option ℕ → Type 0
Commands s [] end = Ends s end
Commands s (c ∷ cs) end = (next : Stream) × Yields s c next × Commands next cs end

-- A stream before its first byte: until limits are agreed on, a frame has at most 4,096 bytes (AMQP 0-9-1, frame-min-size).
abbrev pub new_stream : Stream
new_stream = record { is_new = true; max = 4096; keeps = true; pending = λ h. Nothing; unread = [] }

-- The stream of a connection that is opened: it doesn't run, so contents are only counted.
abbrev pub opened_stream : Stream
opened_stream = record new_stream { keeps = false }

-- The stream of a connection that is opened as running.
abbrev pub running_stream : Stream
running_stream = record { is_new = false; max = 131072; keeps = true; pending = λ h. Nothing; unread = [] }

-- The stream with `bytes` appended to its unread bytes.
abbrev pub heard : Stream → List ℕ → Stream
heard s bytes = record s { unread = s.unread ++ bytes }

-- The stream, with frames of at most `max` bytes.
abbrev pub with_max : ℕ → Stream → Stream
with_max max s = record s { max = max }

-- The stream, with contents kept, or only counted if `keeps` is false.
abbrev pub keeping : Bool → Stream → Stream
keeping keeps s = record s { keeps = keeps }

-- The command's method, if it has one, has a spelling, and its content, if it has one, is not too large.
abbrev pub IsCommand : Command → Type 0
IsCommand (Head bytes) = Unit {0}
IsCommand (Plain h m) = IsMethod m
IsCommand (Full h p content) = IsMethod (BasicPublish p) × IsWithin content
IsCommand (TooLarge h) = Unit {0}
