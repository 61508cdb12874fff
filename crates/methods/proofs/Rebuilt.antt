-- A method is what its ids and its arguments say.
use Rattle.std.specs.Prelude.{get_or}
use Rattle.methods.proofs.Names.{◌≡◌, ℕ, Bool, false, List, [], refl, sym, ap, ◌∙◌, ◌==◌, if◌then◌else◌, Argument, Octet, Short, Long, Long_long, Short_text, Long_text, Field_table, Bits, Ids, ids_of, arguments, Method, ConnectionStart, ConnectionStartOk, ConnectionTune, ConnectionTuneOk, ConnectionOpen, ConnectionOpenOk, ConnectionClose, ConnectionCloseOk, ChannelOpen, ChannelOpenOk, ChannelFlow, ChannelFlowOk, ChannelClose, ChannelCloseOk, ExchangeDeclare, ExchangeDeclareOk, ExchangeDelete, ExchangeBind, ExchangeUnbind, QueueDeclare, QueueDeclareOk, QueueBind, QueuePurge, QueuePurgeOk, QueueDelete, QueueUnbind, BasicQos, BasicQosOk, BasicConsume, BasicConsumeOk, BasicCancel, BasicCancelOk, BasicPublish, BasicReturn, BasicDeliver, BasicGet, BasicGetOk, BasicGetEmpty, BasicAck, BasicReject, BasicRecover, BasicRecoverOk, BasicNack, ConfirmSelect, ConfirmSelectOk}

-- ---- the arguments by their positions, from 0

abbrev number_of : Argument → ℕ
number_of (Octet n) = n
number_of (Short n) = n
number_of (Long n) = n
number_of (Long_long n) = n
number_of _ = 0

abbrev text_of : Argument → List ℕ
text_of (Short_text t) = t
text_of (Long_text t) = t
text_of (Field_table t) = t
text_of _ = []

abbrev bit_of : ℕ → Argument → Bool
bit_of n (Bits bs) = get_or bs n false
bit_of n _ = false

abbrev number : ℕ → List Argument → ℕ
number n given = number_of (get_or given n (Octet 0))

abbrev text : ℕ → List Argument → List ℕ
text n given = text_of (get_or given n (Octet 0))

-- bit number `k`, from 0, of the bits in this position
abbrev bit : ℕ → ℕ → List Argument → Bool
bit k n given = bit_of k (get_or given n (Octet 0))

-- ---- by class and method

connection_of : ℕ → List Argument → Method
connection_of m given =
    if m == 10 then ConnectionStart (record { version_major = number 0 given; version_minor = number 1 given; server_properties = text 2 given; mechanisms = text 3 given; locales = text 4 given })
    else if m == 11 then ConnectionStartOk (record { client_properties = text 0 given; mechanism = text 1 given; response = text 2 given; locale = text 3 given })
    else if m == 30 then ConnectionTune (record { channel_max = number 0 given; frame_max = number 1 given; heartbeat = number 2 given })
    else if m == 31 then ConnectionTuneOk (record { channel_max = number 0 given; frame_max = number 1 given; heartbeat = number 2 given })
    else if m == 40 then ConnectionOpen (record { virtual_host = text 0 given; reserved_text = text 1 given; reserved_bit = bit 0 2 given })
    else if m == 41 then ConnectionOpenOk (text 0 given)
    else if m == 50 then ConnectionClose (record { reply_code = number 0 given; reply_text = text 1 given; class_id = number 2 given; method_id = number 3 given })
    else ConnectionCloseOk

channel_of : ℕ → List Argument → Method
channel_of m given =
    if m == 10 then ChannelOpen (text 0 given)
    else if m == 11 then ChannelOpenOk (text 0 given)
    else if m == 20 then ChannelFlow (bit 0 0 given)
    else if m == 21 then ChannelFlowOk (bit 0 0 given)
    else if m == 40 then ChannelClose (record { reply_code = number 0 given; reply_text = text 1 given; class_id = number 2 given; method_id = number 3 given })
    else ChannelCloseOk

exchange_of : ℕ → List Argument → Method
exchange_of m given =
    if m == 10 then ExchangeDeclare (record { reserved = number 0 given; exchange = text 1 given; kind = text 2 given; passive = bit 0 3 given; durable = bit 1 3 given; auto_delete = bit 2 3 given; internal = bit 3 3 given; no_wait = bit 4 3 given; arguments = text 4 given })
    else if m == 11 then ExchangeDeclareOk
    else if m == 20 then ExchangeDelete
    else if m == 30 then ExchangeBind
    else ExchangeUnbind

queue_of : ℕ → List Argument → Method
queue_of m given =
    if m == 10 then QueueDeclare (record { reserved = number 0 given; queue = text 1 given; passive = bit 0 2 given; durable = bit 1 2 given; exclusive = bit 2 2 given; auto_delete = bit 3 2 given; no_wait = bit 4 2 given; arguments = text 3 given })
    else if m == 11 then QueueDeclareOk (record { queue = text 0 given; message_count = number 1 given; consumer_count = number 2 given })
    else if m == 20 then QueueBind
    else if m == 30 then QueuePurge (record { reserved = number 0 given; queue = text 1 given; no_wait = bit 0 2 given })
    else if m == 31 then QueuePurgeOk (number 0 given)
    else if m == 40 then QueueDelete
    else QueueUnbind

basic_of : ℕ → List Argument → Method
basic_of m given =
    if m == 10 then BasicQos (record { prefetch_size = number 0 given; prefetch_count = number 1 given; global = bit 0 2 given })
    else if m == 11 then BasicQosOk
    else if m == 20 then BasicConsume (record { reserved = number 0 given; queue = text 1 given; consumer_tag = text 2 given; no_local = bit 0 3 given; no_ack = bit 1 3 given; exclusive = bit 2 3 given; no_wait = bit 3 3 given; arguments = text 4 given })
    else if m == 21 then BasicConsumeOk (text 0 given)
    else if m == 30 then BasicCancel (record { consumer_tag = text 0 given; no_wait = bit 0 1 given })
    else if m == 31 then BasicCancelOk (text 0 given)
    else if m == 40 then BasicPublish (record { reserved = number 0 given; exchange = text 1 given; routing_key = text 2 given; mandatory = bit 0 3 given; immediate = bit 1 3 given })
    else if m == 50 then BasicReturn (record { reply_code = number 0 given; reply_text = text 1 given; exchange = text 2 given; routing_key = text 3 given })
    else if m == 60 then BasicDeliver (record { consumer_tag = text 0 given; delivery_tag = number 1 given; redelivered = bit 0 2 given; exchange = text 3 given; routing_key = text 4 given })
    else if m == 70 then BasicGet (record { reserved = number 0 given; queue = text 1 given; no_ack = bit 0 2 given })
    else if m == 71 then BasicGetOk (record { delivery_tag = number 0 given; redelivered = bit 0 1 given; exchange = text 2 given; routing_key = text 3 given; message_count = number 4 given })
    else if m == 72 then BasicGetEmpty (text 0 given)
    else if m == 80 then BasicAck (record { delivery_tag = number 0 given; multiple = bit 0 1 given })
    else if m == 90 then BasicReject (record { delivery_tag = number 0 given; requeue = bit 0 1 given })
    else if m == 110 then BasicRecover (bit 0 0 given)
    else if m == 111 then BasicRecoverOk
    else BasicNack (record { delivery_tag = number 0 given; multiple = bit 0 1 given; requeue = bit 1 1 given })

confirm_of : ℕ → List Argument → Method
confirm_of m given = if m == 10 then ConfirmSelect (bit 0 0 given) else ConfirmSelectOk

rebuilt : Ids → List Argument → Method
rebuilt i given =
    if i.class == 10 then connection_of i.method given
    else if i.class == 20 then channel_of i.method given
    else if i.class == 40 then exchange_of i.method given
    else if i.class == 50 then queue_of i.method given
    else if i.class == 60 then basic_of i.method given
    else confirm_of i.method given

rebuilt_same : (x : Method) → rebuilt (ids_of x) (arguments x) ≡ x
unfolding rebuilt connection_of channel_of exchange_of queue_of basic_of confirm_of
rebuilt_same ConnectionCloseOk = refl
rebuilt_same _ = refl

-- two methods of the same ids and arguments are the same
pub same_method : (x y : Method) → ids_of x ≡ ids_of y → arguments x ≡ arguments y → x ≡ y
same_method x y i a = sym (rebuilt_same x) ∙ ap (λ (j : Ids). rebuilt j (arguments x)) i ∙ ap (λ (z : List Argument). rebuilt (ids_of y) z) a ∙ rebuilt_same y
