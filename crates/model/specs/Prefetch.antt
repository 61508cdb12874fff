-- How many messages may be unacknowledged at once (RabbitMQ, "Consumer Prefetch";
-- AMQP 0-9-1, basic.qos). `taker_of` returns the taker of an unacknowledged message.
use Rattle.std.specs.Prelude.{ℕ, List, Bool, true, false, nat_lt, ◌==◌, ◌&&◌, ◌||◌, count_by}
use Rattle.model.specs.declared.messages.Taker.{Taker}
use Rattle.model.specs.declared.messages.Taker.TheVariants.{Get, Consumer}

-- Whether the taker is consumer `number`.
abbrev pub is_to : ℕ → Taker → Bool
is_to number by = elim by [ Get ↦ false | Consumer n ↦ n == number ]

-- Whether the taker is a consumer, which may have been cancelled since; a get does not count.
abbrev pub is_delivery : Taker → Bool
is_delivery by = elim by [ Get ↦ false | Consumer n ↦ true ]

-- How many of the messages `given` were given to consumer `number`.
abbrev pub count_to : {X : Type 0} → (X → Taker) → ℕ → List X → ℕ
count_to taker_of number given = count_by (λ x. is_to number (taker_of x)) given

-- How many of the messages `given` were given to consumers.
abbrev pub count_given : {X : Type 0} → (X → Taker) → List X → ℕ
count_given taker_of given = count_by (λ x. is_delivery (taker_of x)) given

-- Whether `n` is below the limit; 0 is no limit.
abbrev pub is_below : ℕ → ℕ → Bool
is_below limit n = (limit == 0) || nat_lt n limit

-- Whether consumer `number` may be given one more message: it needs no acknowledgement, or neither its `own` prefetch nor the channel's `limit` is used up.
abbrev pub may_hold : {X : Type 0} → (X → Taker) → ℕ → Bool → ℕ → ℕ → List X → Bool
may_hold taker_of limit no_ack own number given = no_ack || (is_below own (count_to taker_of number given) && is_below limit (count_given taker_of given))

-- Whether a delivery tag is left: the greatest 64-bit number is never given (own).
abbrev pub has_tag_left : ℕ → Bool
has_tag_left next_tag = nat_lt next_tag 18446744073709551615
