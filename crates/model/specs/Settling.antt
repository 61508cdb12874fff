-- What an acknowledgement or a rejection settles (AMQP 0-9-1, basic.ack and basic.reject; RabbitMQ, basic.nack).
-- The unacknowledged deliveries of a channel are in the order of their delivery tags; `tag_of` returns the tag of a delivery.
use Rattle.std.specs.Prelude.{◌<◌, ℕ, List, Bool, true, false, nat_le, ◌==◌, ◌&&◌, not, if◌then◌else◌, Option, Some, None, filter}
use Rattle.std.specs.List.{list_any, AllPairs}

-- Whether the delivery `x` has this tag.
abbrev pub has_tag : {X : Type 0} → (X → ℕ) → ℕ → X → Bool
has_tag tag_of tag x = tag_of x == tag

-- Whether the tag settles the delivery `x`. Without `multiple` it settles the delivery with this tag; with
-- `multiple` it settles all up to the tag, or all deliveries if the tag is 0 (AMQP 0-9-1, basic.ack, "multiple").
abbrev pub takes : {X : Type 0} → (X → ℕ) → ℕ → Bool → X → Bool
takes tag_of tag multiple x = if multiple then (if tag == 0 then true else nat_le (tag_of x) tag) else tag_of x == tag

-- Whether the tag is refused: no delivery of `given` has it, and it is not tag 0 with `multiple` (AMQP 0-9-1,
-- basic.ack, "unknown delivery tag"; that the tag itself must be unacknowledged with `multiple`, too, is own).
abbrev pub is_refused : {X : Type 0} → (X → ℕ) → ℕ → Bool → List X → Bool
is_refused tag_of tag multiple given = if multiple && (tag == 0) then false else not (list_any (has_tag tag_of tag) given)

-- The deliveries that the tag settles, in the order of tags; `None` if it is refused.
abbrev pub settled : {X : Type 0} → (X → ℕ) → ℕ → Bool → List X → Option (List X)
settled tag_of tag multiple given = if is_refused tag_of tag multiple given then None else Some (filter (takes tag_of tag multiple) given)

-- The deliveries that stay unacknowledged; all of them if the tag is refused.
abbrev pub kept : {X : Type 0} → (X → ℕ) → ℕ → Bool → List X → List X
kept tag_of tag multiple given = if is_refused tag_of tag multiple given then given else filter (λ x. not (takes tag_of tag multiple x)) given

-- The tags rise (AMQP 0-9-1, section 2.2.7, "delivery-tag").
abbrev pub Rises : {X : Type 0} → (X → ℕ) → List X → Type 0
Rises tag_of given = AllPairs (λ a b. tag_of a < tag_of b) given
