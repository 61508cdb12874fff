-- What a span of the unacknowledged deliveries settles (AMQP 0-9-1, basic.ack, "delivery-tag" and "multiple").
use Rattle.std.specs.Prelude.{◌≡◌, ℕ, List, [], filter, Bool, if◌then◌else◌, Option, Some, None}
use Rattle.model.specs.Settling.{takes, is_refused, settled}
use Rattle.model.specs.declared.deliveries.Delivery.{Delivery}
use Rattle.channels.specs.Outstanding.{tag_of}
use Rattle.channels.specs.declared.spans.Span.{Span}

-- what the span settles of the deliveries `ds`, in the order of tags; nothing if its tag is refused
abbrev pub settled_by : Span → List Delivery → List Delivery
settled_by span ds = if is_refused tag_of span.tag span.multiple ds then [] else filter (takes tag_of span.tag span.multiple) ds

-- `span` is that of the tag `tag`, with or without `multiple`, and the tag is not refused for the deliveries `ds`.
pub record IsSpan (span : Span) (tag : ℕ) (multiple : Bool) (ds : List Delivery) : Type 0 where
  pub tagged : span.tag ≡ tag
  pub is_multiple : span.multiple ≡ multiple
  pub settles : settled tag_of tag multiple ds ≡ Some (settled_by span ds)

-- the result is the span of the tag, or `None` if the tag is refused
abbrev pub ReturnsSpan : ℕ → Bool → List Delivery → Option Span → Type 0
ReturnsSpan tag multiple ds (Some span) = IsSpan span tag multiple ds
ReturnsSpan tag multiple ds None = settled tag_of tag multiple ds ≡ None
