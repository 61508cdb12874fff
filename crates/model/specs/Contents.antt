-- What is given out: each content is that of a publish, except for headers that tell of
-- deaths (AMQP 0-9-1, section 4.2.6, "Content Framing"; RabbitMQ, "Dead Letter Exchanges").
use Rattle.std.specs.Prelude.{◌≡◌, ℕ, List, [], ◌∷◌, ◌++◌, filter_map, Option, None}
use Rattle.std.specs.List.{AllByRecursion}
use Rattle.model.specs.Words.{Text}
use Rattle.model.specs.Topology.{IsIn}
use Rattle.model.specs.Step.{content_or_none}
use Rattle.model.specs.Message.{Message}
use Rattle.model.specs.Deaths.{AreMarked, with_headers}
use Rattle.model.specs.Run.{Happening}
use Rattle.model.specs.declared.messages.Entry.{Entry}
use Rattle.model.specs.declared.methods.Method.TheVariants.{BasicPublish}
use Rattle.model.specs.declared.methods.Publish.{Publish}
use Rattle.model.specs.declared.contents.Content.{Content}
use Rattle.model.specs.declared.events.Send.{Send}
use Rattle.model.specs.declared.events.Send.TheVariants as send
use Rattle.model.specs.declared.events.Event.TheVariants.{Command}
use Rattle.model.specs.Allowed.{IsNoted}
use Rattle.model.specs.Order.{GivesOut}

-- Any number of deaths turns the first headers, as they were published, into the second ones. Each death adds its fields unless an earlier
-- death did (RabbitMQ, "Dead Letter Exchanges").
pub data AreHeadersAfter : Option Text → Option Text → Type 0 where
  as_published : {headers : Option Text} → AreHeadersAfter headers headers
  after_death : {first before after : Option Text} (queue exchange : Text) → AreHeadersAfter first before → AreMarked queue exchange before after
      → AreHeadersAfter first after

-- The content `now` is what became of `published`: its body and its properties are the same, except for headers that tell of deaths.
pub record IsContentOf (published now : Content) : Type 0 where
  pub same : now ≡ with_headers published now.properties.headers
  pub headers : AreHeadersAfter published.properties.headers now.properties.headers

-- At one of the events `hs`, publish `n` came with the content `came`, for the exchange `x` under the key `k`.
pub record WasPublished (hs : List Happening) (n : ℕ) (x k : Text) (came : Content) : Type 0 where
  pub happening : Happening
  pub among : IsIn happening hs
  pub connection : ℕ
  pub channel : ℕ
  pub publish : Publish
  pub given : Option Content
  pub event : happening.event ≡ Command connection channel (BasicPublish publish) given
  pub exchange : publish.exchange ≡ x
  pub key : publish.routing_key ≡ k
  pub content : content_or_none given ≡ came
  pub noted : IsNoted happening.notes n x k

-- The message is of a publish at one of the events `hs`: it has that publish's number, exchange and key, and what became of its content.
pub record IsOfPublish (hs : List Happening) (m : Message) : Type 0 where
  pub published : Content
  pub was : WasPublished hs m.number m.first_exchange m.first_key published
  pub content : IsContentOf published m.content

-- The content of a send, if it has one.
abbrev pub content_in : Send → Option Content
content_in (send.Greeting c) = None
content_in (send.Command c h m content) = content

-- The source of a content that is sent at the event `h`.
pub data HasSource (before : List Happening) (h : Happening) (content : Content) : Type 0 where
  -- It is the content of the message that the event gives out, to a get or to a consumer of its queue;
  -- the message is of a publish at one of the events `before`.
  given_out : (queue : Text) (entry : Entry) → GivesOut h queue entry → content ≡ entry.message.content → IsOfPublish before entry.message
      → HasSource before h content
  -- The content is that of the event's own publish, which is sent back.
  sent_back : (c k : ℕ) (publish : Publish) (given : Option Content) → h.event ≡ Command c k (BasicPublish publish) given
      → content ≡ content_or_none given → HasSource before h content

-- Each content that is sent at the event `h` has a source; `before` are the events before it.
abbrev pub HaveSources : List Happening → Happening → Type 0
HaveSources before h = AllByRecursion (HasSource before h) (filter_map content_in h.sends)

-- Each content that is sent at one of the events has a source; `before` are those before the first of them.
abbrev pub AreSourced : List Happening → List Happening → Type 0
AreSourced before [] = Unit {0}
AreSourced before (h ∷ hs) = HaveSources before h × AreSourced (before ++ h ∷ []) hs
