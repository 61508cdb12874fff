-- How methods are spelled. Start with `method_bytes` and `SaysMethod`. Source: AMQP
-- 0-9-1, section 4.2.4, "Method Payloads", section 4.2.5, "Data Types", and its XML.
use Rattle.std.specs.Prelude.{
  ◌≡◌,
  ◌<◌,
  ◌≤◌,
  ◌+◌,
  ◌*◌,
  ◌^◌,
  ℕ,
  List,
  [],
  ◌∷◌,
  ◌++◌,
  length,
  take,
  drop,
  Bool,
  true,
  false,
  cond,
  flat_map,
  ◌==◌,
  ◌&&◌,
  ◌||◌,
  if◌then◌else◌,
  Result,
  Ok,
  Err,
}
use Rattle.std.specs.Int.{w16, w32, w64, to_be_bytes, from_be_bytes}
use Rattle.std.specs.List.{AllByRecursion, list_any}
use Rattle.model.specs.Words.{Text}
use Rattle.model.specs.Tables.{IsTable}
use Rattle.model.specs.declared.methods.Publish.{Publish}
use Rattle.model.specs.declared.methods.Method.{Method}
use Rattle.model.specs.declared.methods.Method.TheVariants.{
  ConnectionStart,
  ConnectionStartOk,
  ConnectionTune,
  ConnectionTuneOk,
  ConnectionOpen,
  ConnectionOpenOk,
  ConnectionClose,
  ConnectionCloseOk,
  ChannelOpen,
  ChannelOpenOk,
  ChannelFlow,
  ChannelFlowOk,
  ChannelClose,
  ChannelCloseOk,
  ExchangeDeclare,
  ExchangeDeclareOk,
  ExchangeDelete,
  ExchangeBind,
  ExchangeUnbind,
  QueueDeclare,
  QueueDeclareOk,
  QueueBind,
  QueuePurge,
  QueuePurgeOk,
  QueueDelete,
  QueueUnbind,
  BasicQos,
  BasicQosOk,
  BasicConsume,
  BasicConsumeOk,
  BasicCancel,
  BasicCancelOk,
  BasicPublish,
  BasicReturn,
  BasicDeliver,
  BasicGet,
  BasicGetOk,
  BasicGetEmpty,
  BasicAck,
  BasicReject,
  BasicRecover,
  BasicRecoverOk,
  BasicNack,
  ConfirmSelect,
  ConfirmSelectOk,
}

-- ---- arguments

-- An argument of a method. Consecutive bits share a byte.
pub data Argument : Type 0 where
  Octet : (n : ℕ) → Argument
  Short : (n : ℕ) → Argument
  Long : (n : ℕ) → Argument
  Long_long : (n : ℕ) → Argument
  Short_text : (t : Text) → Argument
  Long_text : (t : Text) → Argument
  Field_table : (pairs : List ℕ) → Argument
  Bits : (bs : List Bool) → Argument

-- The byte that holds these bits: the first bit is the lowest, and unused bits are 0.
abbrev pub octet : List Bool → ℕ
octet [] = 0
octet (b ∷ bs) = cond b 1 0 + 2 * octet bs

-- The bytes of an argument: numbers are big-endian, and the length of a text or table is before it.
abbrev pub argument : Argument → List ℕ
argument (Octet n) = n ∷ []
argument (Short n) = to_be_bytes w16 n
argument (Long n) = to_be_bytes w32 n
argument (Long_long n) = to_be_bytes w64 n
argument (Short_text t) = length t ∷ t
argument (Long_text t) = to_be_bytes w32 (length t) ++ t
argument (Field_table pairs) = to_be_bytes w32 (length pairs) ++ pairs
argument (Bits bs) = octet bs ∷ []

-- The argument has a spelling.
abbrev pub IsArgument : Argument → Type 0
IsArgument (Octet n) = n < 2 ^ 8
IsArgument (Short n) = n < 2 ^ 16
IsArgument (Long n) = n < 2 ^ 32
IsArgument (Long_long n) = n < 2 ^ 64
IsArgument (Short_text t) = length t < 256
IsArgument (Long_text t) = length t < 2 ^ 32
IsArgument (Field_table pairs) = IsTable pairs
IsArgument (Bits bs) = length bs ≤ 8

-- ---- the table of methods

-- The two numbers by which a payload names its method.
pub record Ids : Type 0 where
  pub class : ℕ
  pub method : ℕ

-- The ids of a method: that of its class, and its own.
abbrev pub ids : ℕ → ℕ → Ids
ids class method = record { class = class; method = method }

-- The class and the method number of a method.
abbrev pub ids_of : Method → Ids
ids_of (ConnectionStart m) = ids 10 10
ids_of (ConnectionStartOk m) = ids 10 11
ids_of (ConnectionTune m) = ids 10 30
ids_of (ConnectionTuneOk m) = ids 10 31
ids_of (ConnectionOpen m) = ids 10 40
ids_of (ConnectionOpenOk reserved) = ids 10 41
ids_of (ConnectionClose m) = ids 10 50
ids_of ConnectionCloseOk = ids 10 51
ids_of (ChannelOpen reserved) = ids 20 10
ids_of (ChannelOpenOk reserved) = ids 20 11
ids_of (ChannelFlow active) = ids 20 20
ids_of (ChannelFlowOk active) = ids 20 21
ids_of (ChannelClose m) = ids 20 40
ids_of ChannelCloseOk = ids 20 41
ids_of (ExchangeDeclare m) = ids 40 10
ids_of ExchangeDeclareOk = ids 40 11
ids_of ExchangeDelete = ids 40 20
ids_of ExchangeBind = ids 40 30
ids_of ExchangeUnbind = ids 40 40
ids_of (QueueDeclare m) = ids 50 10
ids_of (QueueDeclareOk m) = ids 50 11
ids_of QueueBind = ids 50 20
ids_of (QueuePurge m) = ids 50 30
ids_of (QueuePurgeOk message_count) = ids 50 31
ids_of QueueDelete = ids 50 40
ids_of QueueUnbind = ids 50 50
ids_of (BasicQos m) = ids 60 10
ids_of BasicQosOk = ids 60 11
ids_of (BasicConsume m) = ids 60 20
ids_of (BasicConsumeOk consumer_tag) = ids 60 21
ids_of (BasicCancel m) = ids 60 30
ids_of (BasicCancelOk consumer_tag) = ids 60 31
ids_of (BasicPublish m) = ids 60 40
ids_of (BasicReturn m) = ids 60 50
ids_of (BasicDeliver m) = ids 60 60
ids_of (BasicGet m) = ids 60 70
ids_of (BasicGetOk m) = ids 60 71
ids_of (BasicGetEmpty reserved) = ids 60 72
ids_of (BasicAck m) = ids 60 80
ids_of (BasicReject m) = ids 60 90
ids_of (BasicRecover requeue) = ids 60 110
ids_of BasicRecoverOk = ids 60 111
ids_of (BasicNack m) = ids 60 120
ids_of (ConfirmSelect no_wait) = ids 85 10
ids_of ConfirmSelectOk = ids 85 11

-- The arguments in the order of the wire. Those of the methods that bind, unbind or delete for a client are not read, so there are none.
abbrev pub arguments : Method → List Argument
arguments (ConnectionStart m) = Octet m.version_major ∷ Octet m.version_minor ∷ Field_table m.server_properties ∷ Long_text m.mechanisms
    ∷ Long_text m.locales ∷ []
arguments (ConnectionStartOk m) = Field_table m.client_properties ∷ Short_text m.mechanism ∷ Long_text m.response ∷ Short_text m.locale ∷ []
arguments (ConnectionTune m) = Short m.channel_max ∷ Long m.frame_max ∷ Short m.heartbeat ∷ []
arguments (ConnectionTuneOk m) = Short m.channel_max ∷ Long m.frame_max ∷ Short m.heartbeat ∷ []
arguments (ConnectionOpen m) = Short_text m.virtual_host ∷ Short_text m.reserved_text ∷ Bits (m.reserved_bit ∷ []) ∷ []
arguments (ConnectionOpenOk reserved) = Short_text reserved ∷ []
arguments (ConnectionClose m) = Short m.reply_code ∷ Short_text m.reply_text ∷ Short m.class_id ∷ Short m.method_id ∷ []
arguments ConnectionCloseOk = []
arguments (ChannelOpen reserved) = Short_text reserved ∷ []
arguments (ChannelOpenOk reserved) = Long_text reserved ∷ []
arguments (ChannelFlow active) = Bits (active ∷ []) ∷ []
arguments (ChannelFlowOk active) = Bits (active ∷ []) ∷ []
arguments (ChannelClose m) = Short m.reply_code ∷ Short_text m.reply_text ∷ Short m.class_id ∷ Short m.method_id ∷ []
arguments ChannelCloseOk = []
arguments (ExchangeDeclare m) = Short m.reserved ∷ Short_text m.exchange ∷ Short_text m.kind
    ∷ Bits (m.passive ∷ m.durable ∷ m.auto_delete ∷ m.internal ∷ m.no_wait ∷ []) ∷ Field_table m.arguments ∷ []
arguments ExchangeDeclareOk = []
arguments ExchangeDelete = []
arguments ExchangeBind = []
arguments ExchangeUnbind = []
arguments (QueueDeclare m) = Short m.reserved ∷ Short_text m.queue ∷ Bits (m.passive ∷ m.durable ∷ m.exclusive ∷ m.auto_delete ∷ m.no_wait ∷ [])
    ∷ Field_table m.arguments ∷ []
arguments (QueueDeclareOk m) = Short_text m.queue ∷ Long m.message_count ∷ Long m.consumer_count ∷ []
arguments QueueBind = []
arguments (QueuePurge m) = Short m.reserved ∷ Short_text m.queue ∷ Bits (m.no_wait ∷ []) ∷ []
arguments (QueuePurgeOk message_count) = Long message_count ∷ []
arguments QueueDelete = []
arguments QueueUnbind = []
arguments (BasicQos m) = Long m.prefetch_size ∷ Short m.prefetch_count ∷ Bits (m.global ∷ []) ∷ []
arguments BasicQosOk = []
arguments (BasicConsume m) = Short m.reserved ∷ Short_text m.queue ∷ Short_text m.consumer_tag
    ∷ Bits (m.no_local ∷ m.no_ack ∷ m.exclusive ∷ m.no_wait ∷ []) ∷ Field_table m.arguments ∷ []
arguments (BasicConsumeOk consumer_tag) = Short_text consumer_tag ∷ []
arguments (BasicCancel m) = Short_text m.consumer_tag ∷ Bits (m.no_wait ∷ []) ∷ []
arguments (BasicCancelOk consumer_tag) = Short_text consumer_tag ∷ []
arguments (BasicPublish m) = Short m.reserved ∷ Short_text m.exchange ∷ Short_text m.routing_key ∷ Bits (m.mandatory ∷ m.immediate ∷ []) ∷ []
arguments (BasicReturn m) = Short m.reply_code ∷ Short_text m.reply_text ∷ Short_text m.exchange ∷ Short_text m.routing_key ∷ []
arguments (BasicDeliver m) = Short_text m.consumer_tag ∷ Long_long m.delivery_tag ∷ Bits (m.redelivered ∷ []) ∷ Short_text m.exchange
    ∷ Short_text m.routing_key ∷ []
arguments (BasicGet m) = Short m.reserved ∷ Short_text m.queue ∷ Bits (m.no_ack ∷ []) ∷ []
arguments (BasicGetOk m) = Long_long m.delivery_tag ∷ Bits (m.redelivered ∷ []) ∷ Short_text m.exchange ∷ Short_text m.routing_key ∷ Long m.message_count ∷ []
arguments (BasicGetEmpty reserved) = Short_text reserved ∷ []
arguments (BasicAck m) = Long_long m.delivery_tag ∷ Bits (m.multiple ∷ []) ∷ []
arguments (BasicReject m) = Long_long m.delivery_tag ∷ Bits (m.requeue ∷ []) ∷ []
arguments (BasicRecover requeue) = Bits (requeue ∷ []) ∷ []
arguments BasicRecoverOk = []
arguments (BasicNack m) = Long_long m.delivery_tag ∷ Bits (m.multiple ∷ m.requeue ∷ []) ∷ []
arguments (ConfirmSelect no_wait) = Bits (no_wait ∷ []) ∷ []
arguments ConfirmSelectOk = []

-- The payload of a method: class, method, arguments.
abbrev pub method_bytes : Method → List ℕ
method_bytes m = to_be_bytes w16 (ids_of m).class ++ to_be_bytes w16 (ids_of m).method ++ flat_map argument (arguments m)

-- The method has a spelling: each of its arguments has one.
abbrev pub IsMethod : Method → Type 0
IsMethod m = AllByRecursion IsArgument (arguments m)

-- ---- what a payload says

-- The class that a payload begins with, in its first two bytes.
abbrev pub class_at : List ℕ → ℕ
class_at bytes = from_be_bytes w16 (take 2 bytes)

-- The method number, in the two bytes after the class.
abbrev pub method_at : List ℕ → ℕ
method_at bytes = from_be_bytes w16 (take 2 (drop 2 bytes))

-- Whether the table of methods has these ids.
abbrev pub is_known : ℕ → ℕ → Bool
is_known c m =
    if c == 10 then list_any (λ n. m == n) (10 ∷ 11 ∷ 30 ∷ 31 ∷ 40 ∷ 41 ∷ 50 ∷ 51 ∷ [])
    else if c == 20 then list_any (λ n. m == n) (10 ∷ 11 ∷ 20 ∷ 21 ∷ 40 ∷ 41 ∷ [])
    else if c == 40 then list_any (λ n. m == n) (10 ∷ 11 ∷ 20 ∷ 30 ∷ 40 ∷ [])
    else if c == 50 then list_any (λ n. m == n) (10 ∷ 11 ∷ 20 ∷ 30 ∷ 31 ∷ 40 ∷ 50 ∷ [])
    else if c == 60 then list_any (λ n. m == n) (10 ∷ 11 ∷ 20 ∷ 21 ∷ 30 ∷ 31 ∷ 40 ∷ 50 ∷ 60 ∷ 70 ∷ 71 ∷ 72 ∷ 80 ∷ 90 ∷ 110 ∷ 111 ∷ 120 ∷ [])
    else if c == 85 then list_any (λ n. m == n) (10 ∷ 11 ∷ [])
    else false

-- Whether a method with these ids is refused as not implemented, 540: one of the tx class, or basic.recover-async.
abbrev pub is_left_out : ℕ → ℕ → Bool
is_left_out c m = (c == 90) || ((c == 60) && (m == 100))

-- Whether a method with these ids binds, unbinds or deletes for a client. Such methods
-- are refused, so they are known by their ids and their arguments are not read (own).
abbrev pub is_unread : ℕ → ℕ → Bool
is_unread c m =
    if c == 40 then list_any (λ n. m == n) (20 ∷ 30 ∷ 40 ∷ [])
    else if c == 50 then list_any (λ n. m == n) (20 ∷ 40 ∷ 50 ∷ [])
    else false

-- The payload spells the method `m`. If its arguments are not read, any bytes may be in their place.
pub data Spells (payload : List ℕ) (m : Method) : Type 0 where
  exact : payload ≡ method_bytes m → Spells payload m
  any_rest : (rest : List ℕ) → is_unread (ids_of m).class (ids_of m).method ≡ true → payload ≡ method_bytes m ++ rest → Spells payload m

-- The payload of a method frame spells the method, or is refused with the reply code:
-- 501 frame-error, 503 command-invalid, 540 not-implemented, 502 syntax-error.
pub data SaysMethod (payload : List ℕ) : Result Method ℕ → Type 0 where
  said : {m : Method} → IsMethod m → Spells payload m → SaysMethod payload (Ok m)
  too_short : length payload < 4 → SaysMethod payload (Err 501)
  unknown : 4 ≤ length payload → is_known (class_at payload) (method_at payload) ≡ false
      → is_left_out (class_at payload) (method_at payload) ≡ false → SaysMethod payload (Err 503)
  left_out : 4 ≤ length payload → is_left_out (class_at payload) (method_at payload) ≡ true → SaysMethod payload (Err 540)
  bad_arguments : 4 ≤ length payload → is_known (class_at payload) (method_at payload) ≡ true
      → ((m : Method) → IsMethod m → Spells payload m → ⊥) → SaysMethod payload (Err 502)

-- The arguments of a publish, or the method if it is another.
abbrev pub split : Method → Result Publish Method
split (BasicPublish publish) = Ok publish
split method = Err method
