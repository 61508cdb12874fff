-- The kinds of each method's arguments, by class and method id. Source: AMQP 0-9-1's XML, with RabbitMQ's `confirm` class and `basic.nack`.
use Rattle.std.specs.Prelude.{◌==◌, ℕ, List, [], ◌∷◌, if◌then◌else◌}
use Rattle.field_table.specs.Arguments.{Kind, an_octet, a_short, a_long, a_long_long, a_short_text, a_long_text, a_field_table, some_bits}

-- ---- arguments that several methods have

-- connection.tune and connection.tune-ok: channel-max, frame-max, heartbeat
abbrev pub tuning_kinds : List Kind
tuning_kinds = a_short ∷ a_long ∷ a_short ∷ []

-- connection.close and channel.close: reply-code, reply-text, class-id, method-id
abbrev pub close_kinds : List Kind
close_kinds = a_short ∷ a_short_text ∷ a_short ∷ a_short ∷ []

-- queue.purge (its bit is no-wait) and basic.get (no-ack): a reserved one, queue, a bit
abbrev pub queue_kinds : List Kind
queue_kinds = a_short ∷ a_short_text ∷ some_bits 1 ∷ []

-- a delivery tag and `n` bits: basic.ack and basic.reject (1), basic.nack (2)
abbrev pub tag_kinds : ℕ → List Kind
tag_kinds n = a_long_long ∷ some_bits n ∷ []

-- ---- by class and method

-- the arguments of each method of the connection class, by its id; close-ok (51) has none
abbrev pub connection_kinds : ℕ → List Kind
connection_kinds m =
    -- start: version-major, version-minor, server-properties, mechanisms, locales
    if m == 10 then an_octet ∷ an_octet ∷ a_field_table ∷ a_long_text ∷ a_long_text ∷ []
    -- start-ok: client-properties, mechanism, response, locale
    else if m == 11 then a_field_table ∷ a_short_text ∷ a_long_text ∷ a_short_text ∷ []
    else if m == 30 then tuning_kinds
    else if m == 31 then tuning_kinds
    -- open: virtual-host and two reserved ones
    else if m == 40 then a_short_text ∷ a_short_text ∷ some_bits 1 ∷ []
    else if m == 41 then a_short_text ∷ []
    else if m == 50 then close_kinds
    else []

-- the arguments of each method of the channel class, by its id; close-ok (41) has none
abbrev pub channel_kinds : ℕ → List Kind
channel_kinds m =
    if m == 10 then a_short_text ∷ []
    else if m == 11 then a_long_text ∷ []
    else if m == 20 then some_bits 1 ∷ []
    else if m == 21 then some_bits 1 ∷ []
    else if m == 40 then close_kinds
    else []

-- the arguments of exchange.declare (10): a reserved one, exchange, type, five bits, arguments; declare-ok (11) has none, and those of
-- delete, bind and unbind are not read
abbrev pub exchange_kinds : ℕ → List Kind
exchange_kinds m = if m == 10 then a_short ∷ a_short_text ∷ a_short_text ∷ some_bits 5 ∷ a_field_table ∷ [] else []

-- the arguments of each method of the queue class, by its id; those of bind (20), delete (40) and unbind (50) are not read
abbrev pub queue_class_kinds : ℕ → List Kind
queue_class_kinds m =
    -- declare: a reserved one, queue, five bits, arguments
    if m == 10 then a_short ∷ a_short_text ∷ some_bits 5 ∷ a_field_table ∷ []
    -- declare-ok: queue, message-count, consumer-count
    else if m == 11 then a_short_text ∷ a_long ∷ a_long ∷ []
    else if m == 30 then queue_kinds
    else if m == 31 then a_long ∷ []
    else []

-- the arguments of each method of the basic class, by its id; qos-ok (11) and recover-ok (111) have none
abbrev pub basic_kinds : ℕ → List Kind
basic_kinds m =
    -- qos: prefetch-size, prefetch-count, global
    if m == 10 then a_long ∷ a_short ∷ some_bits 1 ∷ []
    -- consume: a reserved one, queue, consumer-tag, four bits, arguments
    else if m == 20 then a_short ∷ a_short_text ∷ a_short_text ∷ some_bits 4 ∷ a_field_table ∷ []
    else if m == 21 then a_short_text ∷ []
    -- cancel: consumer-tag, no-wait
    else if m == 30 then a_short_text ∷ some_bits 1 ∷ []
    else if m == 31 then a_short_text ∷ []
    -- publish: a reserved one, exchange, routing-key, two bits
    else if m == 40 then a_short ∷ a_short_text ∷ a_short_text ∷ some_bits 2 ∷ []
    -- return: reply-code, reply-text, exchange, routing-key
    else if m == 50 then a_short ∷ a_short_text ∷ a_short_text ∷ a_short_text ∷ []
    -- deliver: consumer-tag, delivery-tag, redelivered, exchange, routing-key
    else if m == 60 then a_short_text ∷ a_long_long ∷ some_bits 1 ∷ a_short_text ∷ a_short_text ∷ []
    else if m == 70 then queue_kinds
    -- get-ok: delivery-tag, redelivered, exchange, routing-key, message-count
    else if m == 71 then a_long_long ∷ some_bits 1 ∷ a_short_text ∷ a_short_text ∷ a_long ∷ []
    else if m == 72 then a_short_text ∷ []
    else if m == 80 then tag_kinds 1
    else if m == 90 then tag_kinds 1
    else if m == 110 then some_bits 1 ∷ []
    else if m == 120 then tag_kinds 2
    else []

-- the arguments of confirm.select (10); select-ok (11) has none
abbrev pub confirm_kinds : ℕ → List Kind
confirm_kinds m = if m == 10 then some_bits 1 ∷ [] else []

-- the kinds of a method's arguments by class and method id; none if it has no arguments or they are not read
abbrev pub kinds_of : ℕ → ℕ → List Kind
kinds_of c m =
    if c == 10 then connection_kinds m
    else if c == 20 then channel_kinds m
    else if c == 40 then exchange_kinds m
    else if c == 50 then queue_class_kinds m
    else if c == 60 then basic_kinds m
    else if c == 85 then confirm_kinds m
    else []
