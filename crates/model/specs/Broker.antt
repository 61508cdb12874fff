-- The broker's state in plain terms: queues as lists of entries in arrival order, connections and channels by number.
use Rattle.std.specs.Prelude.{
  ℕ,
  ◌+◌,
  List,
  [],
  ◌∷◌,
  length,
  filter,
  Bool,
  true,
  false,
  nat_lt,
  nat_le,
  ◌==◌,
  ◌&&◌,
  ◌||◌,
  if◌then◌else◌,
  Option,
  Some,
  None,
  find,
}
use Rattle.std.specs.List.{sum_by}
use Rattle.std.specs.Str.{bytes_eq}
use Rattle.model.specs.Words.{Text}
use Rattle.model.specs.Topology.{Topology}
use Rattle.model.specs.declared.topologies.DeclaredQueue.{DeclaredQueue}
use Rattle.model.specs.declared.messages.Entry.{Entry}
use Rattle.model.specs.declared.messages.Mark.TheVariants.{Ready, Held}
use Rattle.model.specs.declared.messages.Taker.{Taker}

-- A consumer, which takes a queue's messages (AMQP 0-9-1, basic.consume).
pub record Consumer : Type 0 where
  -- The consumers of a channel are numbered in the order in which they are made.
  pub number : ℕ
  pub tag : Text
  pub queue : Text
  pub no_ack : Bool
  -- The most unacknowledged messages that it may have; 0 is no limit.
  pub limit : ℕ

-- A delivery that is not settled yet: its message is unacknowledged on the channel.
pub record Outstanding : Type 0 where
  pub tag : ℕ
  pub queue : Text
  pub by : Taker

-- An open channel (AMQP 0-9-1, section 2.2.5, "The Channel Class").
pub record Channel : Type 0 where
  -- The last confirm number, if the channel is in confirm mode (RabbitMQ, "Publisher Confirms").
  pub confirm : Option ℕ
  pub next_tag : ℕ
  -- The number of the next consumer. No number is used twice.
  pub next_number : ℕ
  -- The least number that the next consumer tag made by the server may have.
  pub next_name : ℕ
  -- A close was sent, and close-ok is awaited.
  pub is_closing : Bool
  pub consumers : List Consumer
  -- The prefetch of each consumer that is made later, and that of all consumers together; 0 is no limit (RabbitMQ, "Consumer Prefetch").
  pub each_limit : ℕ
  pub limit : ℕ
  -- In the order of their tags.
  pub outstanding : List Outstanding

-- A running connection.
pub record Connection : Type 0 where
  pub channel_max : ℕ
  pub is_paused : Bool

-- The broker: each queue is a list of entries in arrival order, and each running connection has its open channels.
pub record Broker : Type 0 where
  -- The number of publishes so far.
  pub published : ℕ
  pub queue : Text → List Entry
  pub connection : ℕ → Option Connection
  pub channel : ℕ → ℕ → Option Channel

-- A channel that was just opened.
abbrev pub new_channel : Channel
new_channel = record {
  confirm = None;
  next_tag = 1;
  next_number = 1;
  next_name = 1;
  is_closing = false;
  consumers = [];
  each_limit = 0;
  limit = 0;
  outstanding = [];
}

-- Whether the entry is ready: its message can be given out.
abbrev pub is_ready : Entry → Bool
is_ready e = elim e.mark [ Ready ↦ true | Held h ↦ false ]

-- The entries of the queue `q`, from the queues' `names` and, in the same order, the `lists` of their entries. No entries if `q` is not in `names`.
abbrev pub listed : List Text → List (List Entry) → Text → List Entry
listed [] lists q = []
listed (name ∷ names) [] q = []
listed (name ∷ names) (entries ∷ lists) q = if bytes_eq name q then entries else listed names lists q

-- ---- full queues

-- Whether `n` has reached the limit; without a limit, never.
abbrev pub is_at : Option ℕ → ℕ → Bool
is_at None n = false
is_at (Some limit) n = nat_le limit n

-- Whether `n` exceeds the limit; without a limit, never.
abbrev pub is_past : Option ℕ → ℕ → Bool
is_past None n = false
is_past (Some limit) n = nat_lt limit n

-- The queue called `name`, as it is declared, if there is one.
abbrev pub queue_named : List DeclaredQueue → Text → Option DeclaredQueue
queue_named qs name = find (λ (q : DeclaredQueue). bytes_eq q.name name) qs

-- The most ready messages that the queue may have; `None` if it has no such limit, or if there is no queue.
abbrev pub limit_of : Option DeclaredQueue → Option ℕ
limit_of None = None
limit_of (Some q) = q.limit

-- The most bytes that the bodies of the queue's ready messages may have together; `None` if it has no such limit, or if there is no queue.
abbrev pub byte_limit_of : Option DeclaredQueue → Option ℕ
byte_limit_of None = None
byte_limit_of (Some q) = q.byte_limit

-- The length of the message's body, in bytes.
abbrev pub body_bytes : Entry → ℕ
body_bytes e = length e.message.content.body

-- The bytes that the bodies of the ready messages have together.
abbrev pub ready_bytes : List Entry → ℕ
ready_bytes entries = sum_by body_bytes (filter is_ready entries)

-- Whether a queue with `count` ready messages, whose bodies have `bytes` bytes, refuses a message with a body of `size` bytes: the
-- count has reached its limit, or with that body the bytes would exceed theirs (RabbitMQ, "Queue Length Limit", reject-publish).
abbrev pub refuses : Option DeclaredQueue → (count bytes size : ℕ) → Bool
refuses q count bytes size = is_at (limit_of q) count || is_past (byte_limit_of q) (bytes + size)

-- Whether the queue `q`, with these entries, refuses a message with a body of `size` bytes.
abbrev pub is_full : Topology → (Text → List Entry) → Text → ℕ → Bool
is_full t entries q size = refuses (queue_named t.queues q) (length (filter is_ready (entries q))) (ready_bytes (entries q)) size

-- ---- one value changed

-- The function `f` with its value at `n` replaced by `a`.
abbrev pub with_one : {A : Type 0} → (ℕ → A) → ℕ → A → ℕ → A
with_one f n a m = if m == n then a else f m

-- The function `f` with its value at `n` and `k` replaced by `a`.
abbrev pub with_pair : {A : Type 0} → (ℕ → ℕ → A) → ℕ → ℕ → A → ℕ → ℕ → A
with_pair f n k a m l = if m == n && l == k then a else f m l

-- The function `f` with all of its values in the row `n` replaced by those of `row`.
abbrev pub with_row : {A : Type 0} → (ℕ → ℕ → A) → ℕ → (ℕ → A) → ℕ → ℕ → A
with_row f n row m l = if m == n then row l else f m l
