-- When a call of an engine may fail to allocate (own).
use Rattle.std.specs.Prelude.{◌≡◌, ◌<◌, ◌≤◌, if◌then◌else◌, ℕ, List, [], length, Bool, true, false, None, Some}
use Rattle.reloading.specs.Allocating.{JudgingMayAllocate}
use Rattle.model.specs.Consuming.{CanDeliver}
use Rattle.model.specs.State.{Config}
use Rattle.model.specs.Arrivals.{World, can_open, is_over, is_awake}
use Rattle.model.specs.Spelling.{spelling}
use Rattle.model.specs.declared.methods.Method.TheVariants.{BasicAck, BasicGet, BasicNack, BasicPublish, BasicReject}
use Rattle.model.specs.declared.events.Event.{Event}
use Rattle.model.specs.declared.events.Event.TheVariants.{Command, Deliver}
use Rattle.model.specs.declared.events.Send.{Send}
use Rattle.outputs.specs.Storages.{SpareCounts, room_of}
use Rattle.outputs.specs.declared.room.Room.{Room}
use Rattle.outputs.specs.declared.room.Room.TheVariants as room
use Rattle.engine.specs.Reading.{HasMore}
use Rattle.runs.specs.Reloaded.{NothingHinders}
use Rattle.runs.specs.Wants.{Want, To_open, To_open_ready, To_feed, To_turn, To_pump, To_reload}

-- judging `offered` may fail to allocate
abbrev pub JudgingOfferMayAllocate : World → Config → Type 0
JudgingOfferMayAllocate w offered = JudgingMayAllocate w.config.topology offered.topology offered.guarantees w.state.broker

-- When a reload may fail to allocate: always if there is no obstacle, as the 1,024 slots for routes are made anew whatever `offered` declares; and if
-- judging it may.
pub data ReloadMayAllocate (w : World) (offered : Config) : Type 0 where
  puts : NothingHinders w offered → ReloadMayAllocate w offered
  judges : JudgingOfferMayAllocate w offered → ReloadMayAllocate w offered

-- Which calls may fail to allocate: opening if a connection can be opened; feeding if the connection is not over and there are bytes; a turn if the
-- connection is awake and a command is pending or there is something to read; a delivery if one can be made; a reload if there is no
-- obstacle, or if judging it may.
abbrev pub MayAllocate : World → Want → Type 0
MayAllocate w To_open = can_open w ≡ true
MayAllocate w (To_open_ready k) = can_open w ≡ true
MayAllocate w (To_feed c bytes) = (is_over w c ≡ false) × (0 < length bytes)
MayAllocate w (To_turn c) = (is_awake w c ≡ true) × HasMore (w.wire c).kept (w.wire c).stream
MayAllocate w To_pump = (c : ℕ) × CanDeliver w.state.broker c
MayAllocate w (To_reload offered) = ReloadMayAllocate w offered

-- the event is a command with a content, as a publish is (own)
abbrev pub brings_message : Event → Bool
brings_message (Command c h m (Some content)) = true
brings_message e = false

-- What the event's sends need room for. Only a get, a publish that may be returned and a delivery send a content (own).
abbrev pub room_wanted : Event → Room
room_wanted (Command c h (BasicGet m) content) = room.Content
room_wanted (Command c h (BasicPublish p) content) = if p.mandatory then room.Content else room.Reply
room_wanted (Deliver c) = room.Content
room_wanted e = room.Reply

-- the sends have no more bytes than this room, whatever size of frames is agreed on
abbrev pub AreWithin : Room → List Send → Type 0
AreWithin room sends = (max : ℕ) → 4096 ≤ max → length (spelling max sends) ≤ room_of room

-- Room for a reply, in an output in which nothing waits, costs no large storage, unless the reserve was freed: then at most 3 are spare.
abbrev pub KeepsLarge : Room → List ℕ → SpareCounts → SpareCounts → Type 0
KeepsLarge wanted bytes old new = wanted ≡ room.Reply → bytes ≡ [] → 3 < new.contents → old.contents ≤ new.contents

-- `KeepsLarge` with the room that the event's sends need, unless the event is a command with a content
abbrev pub KeepsLargeFor : Event → List ℕ → SpareCounts → SpareCounts → Type 0
KeepsLargeFor e bytes old new = brings_message e ≡ false → KeepsLarge (room_wanted e) bytes old new

-- How many unread bytes may be read with memory of the reserve after this event: none after a publish, what two reads of a socket give after
-- an ack, nack or reject, and otherwise more than a login has (own).
abbrev pub allowance_after : Event → ℕ
allowance_after (Command c h m (Some content)) = 0
allowance_after (Command c h (BasicAck m) None) = 131072
allowance_after (Command c h (BasicNack m) None) = 131072
allowance_after (Command c h (BasicReject m) None) = 131072
allowance_after e = 4096
