-- What may be sent at one event, and which messages may be in queues so that each can be given out (own). Start with `IsCarried` and `AreOwn`.
use Rattle.std.specs.Prelude.{◌≡◌, ◌≤◌, ◌<◌, ◌^◌, ◌+◌, ℕ, List, length, Option, Some, None}
use Rattle.std.specs.List.{AllByRecursion}
use Rattle.model.specs.Words.{Text}
use Rattle.model.specs.Grammar.{IsMethod, method_bytes}
use Rattle.model.specs.Message.{Message}
use Rattle.model.specs.Broker.{Broker}
use Rattle.model.specs.Headers.{AreProperties, header_bytes}
use Rattle.model.specs.Deaths.{IsUnmarked}
use Rattle.model.specs.Commands.{most_body, most_header}
use Rattle.model.specs.Spelling.{spelling}
use Rattle.model.specs.declared.contents.Content.{Content}
use Rattle.model.specs.declared.messages.Entry.{Entry}
use Rattle.model.specs.declared.events.Send.{Send}
use Rattle.model.specs.declared.events.Send.TheVariants.{Greeting, Command}

-- ---- messages

-- By how many bytes the header of a dead letter may be longer than that of its
-- publish: the three fields of its first death, and the length before them (own).
abbrev pub most_growth : ℕ
most_growth = 601

-- A content that may be in a queue: that of a publish, which is not too large, or of a dead letter, whose header grew once.
pub record IsStored (content : Content) : Type 0 where
  pub properties : AreProperties content.properties
  pub body : length content.body ≤ most_body
  pub header : length (header_bytes (length content.body) content.properties) ≤ most_header + most_growth
  -- If its headers tell of no death, it has not grown.
  pub unmarked : IsUnmarked content.properties.headers → length (header_bytes (length content.body) content.properties) ≤ most_header

-- The content, if there is one, may be in a queue.
abbrev pub HasStored : Option Content → Type 0
HasStored None = Unit {0}
HasStored (Some content) = IsStored content

-- The message can be given out: its exchange and its key have a spelling, and its content may be in a queue.
pub record IsCarried (m : Message) : Type 0 where
  pub exchange : length m.exchange < 256
  pub key : length m.key < 256
  pub content : IsStored m.content

-- Each message in a queue can be given out.
abbrev pub AreCarried : Broker → Type 0
AreCarried b = (q : Text) → AllByRecursion (λ (e : Entry). IsCarried e.message) (b.queue q)

-- ---- sends

-- The most bytes that the sends of one event have together (own).
abbrev pub most_sent : ℕ
most_sent = 1060000

-- The longest payload of a method that fits the smallest frame limit, 4,096 bytes.
abbrev pub most_method : ℕ
most_method = 4088

-- The send goes to connection `c`, on a channel that a frame can name, and its method has a spelling; this says nothing of its content.
abbrev pub IsAddressed : ℕ → Send → Type 0
IsAddressed c (Greeting d) = d ≡ c
IsAddressed c (Command d h m content) = (d ≡ c) × (h < 2 ^ 16) × IsMethod m

-- The send's method fits the smallest frame limit, and its content may be in a queue.
abbrev pub IsFitting : Send → Type 0
IsFitting (Greeting d) = Unit {0}
IsFitting (Command d h m content) = (length (method_bytes m) ≤ most_method) × HasStored content

-- The send can be put out for connection `c`, whatever size of frames is agreed on.
abbrev pub IsOwn : ℕ → Send → Type 0
IsOwn c s = IsAddressed c s × IsFitting s

-- Each of the sends can be put out for connection `c`, and all together have at most `most_sent` bytes, whatever size of frames is agreed on.
pub record AreOwn (c : ℕ) (sends : List Send) : Type 0 where
  pub each : AllByRecursion (IsOwn c) sends
  pub size : (max : ℕ) → 4096 ≤ max → length (spelling max sends) ≤ most_sent
