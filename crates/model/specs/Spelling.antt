-- The bytes that are put out for what is sent. Start with `spelling`. Source: AMQP 0-9-1, section 4.2.6, "Content Framing".
use Rattle.std.specs.Prelude.{◌<◌, ◌-◌, ◌^◌, ℕ, zero, suc, List, [], ◌∷◌, length, take, drop, map, filter, flat_map, Option, Some, None, ◌==◌}
use Rattle.std.specs.List.{AllByRecursion}
use Rattle.model.specs.Frames.{Frame, frame_bytes, IsFrame}
use Rattle.model.specs.Grammar.{method_bytes, IsMethod}
use Rattle.model.specs.Headers.{header_bytes, AreProperties}
use Rattle.model.specs.declared.contents.Content.{Content}
use Rattle.model.specs.declared.methods.Method.{Method}
use Rattle.model.specs.declared.events.Send.{Send}
use Rattle.model.specs.declared.events.Send.TheVariants.{Greeting, Command}

-- The protocol header (AMQP 0-9-1, section 4.2.2).
abbrev pub eight_bytes : List ℕ
eight_bytes = 65 ∷ 77 ∷ 81 ∷ 80 ∷ 0 ∷ 0 ∷ 9 ∷ 1 ∷ []

-- The frame of a method on channel `h`.
abbrev pub method_frame : ℕ → Method → Frame
method_frame h m = record { kind = 1; channel = h; payload = method_bytes m }

-- `bytes` cut into pieces of `size` bytes, of which the last may be shorter, and none is empty. The second argument is the most pieces that are cut.
abbrev pub pieces_of : ℕ → ℕ → List ℕ → List (List ℕ)
pieces_of size zero bytes = []
pieces_of size (suc steps) [] = []
pieces_of size (suc steps) (b ∷ bytes) = take size (b ∷ bytes) ∷ pieces_of size steps (drop size (b ∷ bytes))

-- The frame of a piece of a body on channel `h`.
abbrev pub body_frame : ℕ → List ℕ → Frame
body_frame h piece = record { kind = 3; channel = h; payload = piece }

-- The header frame of a content, and the frames of its body, each of at most `max` bytes.
abbrev pub content_frames : ℕ → ℕ → Option Content → List Frame
content_frames max h None = []
content_frames max h (Some c) =
    record { kind = 2; channel = h; payload = header_bytes (length c.body) c.properties } ∷ map (body_frame h) (pieces_of (max - 8) (length c.body) c.body)

-- The frames of a send: of its method, and of its content if it has one; the protocol header is no frame.
abbrev pub frames_of : ℕ → Send → List Frame
frames_of max (Greeting c) = []
frames_of max (Command c h m content) = method_frame h m ∷ content_frames max h content

-- The bytes of a send: its frames one after another, or the protocol header.
abbrev pub send_bytes : ℕ → Send → List ℕ
send_bytes max (Greeting c) = eight_bytes
send_bytes max (Command c h m content) = flat_map frame_bytes (frames_of max (Command c h m content))

-- The bytes of the sends, one after another; `max` is the largest frame of their connection, in bytes.
abbrev pub spelling : ℕ → List Send → List ℕ
spelling max sends = flat_map (send_bytes max) sends

-- The connection that the send is for.
abbrev pub receiver : Send → ℕ
receiver (Greeting c) = c
receiver (Command c h m content) = c

-- The sends that are for connection `c`, in order.
abbrev pub sends_to : ℕ → List Send → List Send
sends_to c sends = filter (λ s. receiver s == c) sends

-- The header of the content can be spelled: its properties have a spelling, and so has the size of its body.
pub record IsContent (c : Content) : Type 0 where
  pub properties : AreProperties c.properties
  pub size : length c.body < 2 ^ 64

-- The header of the content, if there is one, can be spelled.
abbrev pub HasContent : Option Content → Type 0
HasContent None = Unit {0}
HasContent (Some c) = IsContent c

-- The method of the send has a spelling, and so has the header of its content, if there is one.
abbrev pub HasSpelling : Send → Type 0
HasSpelling (Greeting c) = Unit {0}
HasSpelling (Command c h m content) = IsMethod m × HasContent content

-- The send can be put out: it has a spelling, and each of its frames, that of its content header too, has at most `max` bytes.
pub record IsSpelled (max : ℕ) (s : Send) : Type 0 where
  pub spelled : HasSpelling s
  pub frames : AllByRecursion (IsFrame max) (frames_of max s)
