-- The unacknowledged deliveries of a channel, in the order of delivery tags.
use Rattle.std.specs.Prelude.{◌≡◌, ◌<◌, ◌≤◌, ◌+◌, ◌*◌, ◌==◌, ℕ, List, length, get_or, drop, if◌then◌else◌}
use Rattle.model.specs.Settling.{Rises}
use Rattle.model.specs.declared.messages.Taker.{Taker}
use Rattle.model.specs.Placed.{waiting}
use Rattle.model.specs.declared.deliveries.Delivery.{Delivery}

-- the delivery tag; 0 if it was settled
abbrev pub tag_of : Delivery → ℕ
tag_of o = o.tag

-- to whom the message was delivered
abbrev pub taker_of : Delivery → Taker
taker_of o = o.by

-- the tag under which the message was delivered; of a settled delivery `arrival` is that tag (own)
abbrev pub given_tag : Delivery → ℕ
given_tag o = if o.tag == 0 then o.arrival else o.tag

-- the settled delivery: its tag is 0, and `arrival` is the tag that it had (own)
abbrev pub marked : Delivery → Delivery
marked o = record o { tag = 0; arrival = o.tag }

-- The delivery at index `place` has the tag `tag`, and isn't settled.
pub record IsTagAt (places : List Delivery) (place tag : ℕ) : Type 0 where
  pub within : place < length places
  pub there : (d : Delivery) → (get_or places place d).tag ≡ tag
  pub waits : tag ≡ 0 → ⊥

-- the unacknowledged deliveries, and the spare capacity for more
pub record OutstandingList : Type 0 where
  pub outstanding : List Delivery
  -- the last tag that was recorded; 0 before the first
  pub last : ℕ
  pub room : ℕ

-- The entries are in the order of the tags that they were given out under, up to `last`.
pub record AreInOrder (last : ℕ) (places : List Delivery) : Type 0 where
  pub rises : Rises given_tag places
  pub most : (k : ℕ) (d : Delivery) → k < length places → given_tag (get_or places k d) ≤ last

-- The entries from index `front` on are in order, and `count` of them are unacknowledged. At most `count + 32` of all entries are settled.
pub record AreKept (places : List Delivery) (front count last : ℕ) : Type 0 where
  pub within : front ≤ length places
  pub order : AreInOrder last (drop front places)
  pub counted : count ≡ length (waiting (drop front places))
  pub few : length places ≤ 2 * count + 32
