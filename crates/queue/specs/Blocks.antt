-- A queue as a list of blocks of messages (own).
use Rattle.std.specs.Prelude.{◌≡◌, ℕ, ◌<◌, ◌≤◌, ◌+◌, ◌*◌, ◌||◌, ◌⊎◌, List, [], ◌∷◌, ◌++◌, length, map, filter, not, slice_set, All, vec_len}
use Rattle.std.specs.Prelude.{Bool, cond, nat_lt, Option, Some, None, find, is_some, get_or}
use Rattle.std.specs.Global.{Vec}
use Rattle.model.specs.Broker.{is_ready, body_bytes}
use Rattle.model.specs.Entries.{is_held_as}
use Rattle.model.specs.Reloading.{survived_now}
use Rattle.model.specs.declared.messages.Entry.{Entry}
use Rattle.model.specs.declared.messages.Holder.{Holder}
use Rattle.queue.specs.Slots.{tally, SlotBits, AreSetBy, HavePlaces, KeepsSize}

-- a block: its entries, the number of pushes into it that need no allocation, and its number of slots
pub record Stretch : Type 0 where
  pub entries : List Entry
  pub room : ℕ
  pub slots : ℕ

-- the entries of each block
abbrev pub parts : List Stretch → List (List Entry)
parts blocks = map (λ (b : Stretch). b.entries) blocks

-- the entries of the block at index `place`
abbrev pub part_at : List Stretch → ℕ → List Entry
part_at blocks place = get_or (parts blocks) place []

-- the entries of each block, with `f` applied to those of the block at index `place`
abbrev pub part_changed : (List Entry → List Entry) → List Stretch → ℕ → List (List Entry)
part_changed f blocks place = slice_set (parts blocks) place (f (part_at blocks place))

-- the entries without those held by `holder`
abbrev pub without_held : Holder → List Entry → List Entry
without_held holder entries = filter (λ e. not (is_held_as holder e)) entries

-- the elements of all the lists, in order
abbrev pub joined : {X : Type 0} → List (List X) → List X
joined [] = []
joined (xs ∷ xss) = xs ++ joined xss

-- the block has messages, or room for some
abbrev pub is_in_use : Stretch → Bool
is_in_use b = nat_lt 0 (length b.entries) || nat_lt 0 b.room

-- the block with each entry marked as one that a reload found there
abbrev pub survived_block : Stretch → Stretch
survived_block b = record { entries = map survived_now b.entries; room = b.room; slots = b.slots }

-- a block without entries and slots
abbrev pub no_stretch : Stretch
no_stretch = record { entries = []; room = 0; slots = 0 }

-- the block at index `place`
abbrev pub block_at : List Stretch → ℕ → Stretch
block_at blocks place = get_or blocks place no_stretch

-- the block has messages
abbrev pub IsHeld : Stretch → Type 0
IsHeld b = 0 < length b.entries

-- the block has a message if it has slots
abbrev pub IsFilled : Stretch → Type 0
IsFilled b = 0 < b.slots → IsHeld b

-- The second block has messages, and the first has too few slots for the messages of both.
pub record NeedBoth (a b : Stretch) : Type 0 where
  pub some : IsHeld b
  pub many : a.slots < length a.entries + length b.entries

-- The first block has messages, and slots for the messages of both.
pub record FitInOne (a b : Stretch) : Type 0 where
  pub some : IsHeld a
  pub wide : length a.entries + length b.entries ≤ a.slots

-- the messages of the block at index `i` and of the next one need both blocks (`NeedBoth`)
abbrev pub NeedBothAt : List Stretch → ℕ → Type 0
NeedBothAt blocks i = NeedBoth (block_at blocks i) (block_at blocks (i + 1))

-- No block has more than `most` slots, and each but the last has a message if it has slots. If a block has messages and the next one is
-- not the last, the messages of the two need both blocks (`NeedBoth`).
pub record AreFilled (most : ℕ) (blocks : List Stretch) : Type 0 where
  pub narrow : (i : ℕ) → (block_at blocks i).slots ≤ most
  pub filled : (i : ℕ) → i + 1 < length blocks → IsFilled (block_at blocks i)
  pub needed : (i : ℕ) → i + 2 < length blocks → IsHeld (block_at blocks i) → NeedBothAt blocks i

-- As `AreFilled`, except that what it says of the block at index `place` and its neighbours would only hold with one more message in that block.
pub record AreFilledBut (place most : ℕ) (blocks : List Stretch) : Type 0 where
  pub narrow : (i : ℕ) → (block_at blocks i).slots ≤ most
  pub filled : (i : ℕ) → i + 1 < length blocks → (i ≡ place → ⊥) → IsFilled (block_at blocks i)
  pub needed : (i : ℕ) → i + 2 < length blocks → (i ≡ place → ⊥) → (i + 1 ≡ place → ⊥) → IsHeld (block_at blocks i) → NeedBothAt blocks i
  pub next : place + 2 < length blocks → IsHeld (block_at blocks (place + 1))
  pub here : place + 2 < length blocks → (block_at blocks place).slots ≤ length (block_at blocks place).entries + length (block_at blocks (place + 1)).entries
  pub before : (i : ℕ) → i + 1 ≡ place → place + 2 < length blocks → IsHeld (block_at blocks i)
      → (block_at blocks i).slots ≤ length (block_at blocks i).entries + length (block_at blocks place).entries

-- Neither the block at index `place` nor the one before it has a message.
pub record IsSpent (place : ℕ) (blocks : List Stretch) : Type 0 where
  pub here : length (block_at blocks place).entries ≡ 0
  pub before : (i : ℕ) → i + 1 ≡ place → length (block_at blocks i).entries ≡ 0

-- There is a block before index `place`, and it has messages.
pub record IsHeldBefore (place : ℕ) (blocks : List Stretch) : Type 0 where
  pub index : ℕ
  pub near : index + 1 ≡ place
  pub held : IsHeld (block_at blocks index)

-- the block at index `place` or the one before it has messages
abbrev pub IsNotSpent : ℕ → List Stretch → Type 0
IsNotSpent place blocks = length (block_at blocks place).entries ≡ 0 → IsHeldBefore place blocks

-- The blocks at `first` and `first + 1` fit into the first of them. One of the two is at index `place`, and neither is the last.
pub record IsPair (place first : ℕ) (blocks : List Stretch) : Type 0 where
  pub near : ((first ≡ place) × (place + 2 < length blocks)) ⊎ (first + 1 ≡ place)
  pub fit : FitInOne (block_at blocks first) (block_at blocks (first + 1))

-- The messages of the block at index `place` and of each of its neighbours need both blocks (`NeedBoth`), if the first of the two has
-- messages and the second is not the last block.
pub record AreNeeded (place : ℕ) (blocks : List Stretch) : Type 0 where
  pub before : (i : ℕ) → i + 1 ≡ place → IsHeld (block_at blocks i) → NeedBothAt blocks i
  pub here : place + 2 < length blocks → IsHeld (block_at blocks place) → NeedBothAt blocks place

-- `new` is `old` with the entries of the block after index `place` moved to the block at `place`, and the emptied block removed.
pub record AreJoined (place : ℕ) (old new : List Stretch) : Type 0 where
  pub len : length new + 1 ≡ length old
  pub before : (i : ℕ) → i < place → block_at new i ≡ block_at old i
  pub entries : (block_at new place).entries ≡ (block_at old place).entries ++ (block_at old (place + 1)).entries
  pub slots : (block_at new place).slots ≡ (block_at old place).slots
  pub behind : (i : ℕ) → place < i → block_at new i ≡ block_at old (i + 1)

-- no two messages of the blocks are held by the same holder
abbrev pub AreHeldOnce : List Stretch → Type 0
AreHeldOnce blocks = (holder : Holder) → tally (is_held_as holder) (joined (parts blocks)) ≤ 1

-- blocks that were filled (`AreFilled`) still are
abbrev pub StayFilled : List Stretch → List Stretch → Type 0
StayFilled old new = (most : ℕ) → AreFilled most old → AreFilled most new

-- the block has fewer than 1,024 slots
abbrev pub IsShort : Stretch → Type 0
IsShort b = b.slots < 1024

-- the last block, if any, has a message or fewer than 1,024 slots
abbrev pub LastIsShort : List Stretch → Type 0
LastIsShort blocks = (i : ℕ) → i + 1 ≡ length blocks → length (block_at blocks i).entries ≡ 0 → IsShort (block_at blocks i)

-- The block can't take `more` messages: with as many gaps as messages it would need more slots than it has, and more than a block may have.
pub record IsTooMuch (more : ℕ) (b : Stretch) : Type 0 where
  pub past : 1024 < length b.entries * 2 + more
  pub wide : b.slots < length b.entries * 2 + more

-- the block has slots for twice the messages that it holds, and for `more` besides
abbrev pub HasSlots : ℕ → Stretch → Type 0
HasSlots more b = length b.entries * 2 + more ≤ b.slots

-- There is a last block, and `more` messages are not too much for it.
pub record LastFits (more : ℕ) (blocks : List Stretch) : Type 0 where
  pub place : ℕ
  pub last : place + 1 ≡ length blocks
  pub fits : IsTooMuch more (block_at blocks place) → ⊥

-- `more` messages are too much for the last block, if there is one
abbrev pub LastHasTooMuch : ℕ → List Stretch → Type 0
LastHasTooMuch more blocks = (i : ℕ) → i + 1 ≡ length blocks → IsTooMuch more (block_at blocks i)

-- There is a last block, and it has slots for twice the messages that it holds, and for `more` besides (`HasSlots`).
pub record LastHasSlots (more : ℕ) (blocks : List Stretch) : Type 0 where
  pub place : ℕ
  pub last : place + 1 ≡ length blocks
  pub wide : HasSlots more (block_at blocks place)

-- each block has as many slots as before
abbrev pub KeepSlots : List Stretch → List Stretch → Type 0
KeepSlots old new = (i : ℕ) → (block_at new i).slots ≡ (block_at old i).slots

-- the number of slots of all blocks
abbrev pub slots_of : List Stretch → ℕ
slots_of [] = 0
slots_of (b ∷ bs) = b.slots + slots_of bs

-- the room of the last block, or `room` if there is none
abbrev pub room_after : ℕ → List Stretch → ℕ
room_after room [] = room
room_after room (b ∷ bs) = room_after b.room bs

-- the room of the last block, or 0 if there is none
abbrev pub last_room : List Stretch → ℕ
last_room blocks = room_after 0 blocks

-- The list's size and the last block's room stay, and the bounds on slots still hold.
pub record KeepBounds (old new : Vec Stretch) : Type 0 where
  pub size : KeepsSize old new
  pub room : last_room new.items ≡ last_room old.items
  pub filled : StayFilled old.items new.items
  pub short : LastIsShort old.items → LastIsShort new.items

-- The list's size and the last block's room stay. The bounds on slots hold, but at index `place` only with one more message.
pub record KeepBoundsBut (place : ℕ) (old new : Vec Stretch) : Type 0 where
  pub size : KeepsSize old new
  pub room : last_room new.items ≡ last_room old.items
  pub filled : (most : ℕ) → AreFilled most old.items → AreFilledBut place most new.items

-- All messages stay in their order, the last block's room never shrinks, and the bounds on slots still hold.
pub record HaveGrown (old new : List Stretch) : Type 0 where
  pub entries : joined (parts new) ≡ joined (parts old)
  pub kept : last_room old ≤ last_room new
  pub filled : AreFilled 1024 old → AreFilled 1024 new

-- The last block and the `spares` spare ones have the promised `room`, which needs all of them. If no room is promised, the last block has a
-- message, or has fewer than 1,024 slots.
pub record HasRoom (room : ℕ) (blocks : List Stretch) (spares : ℕ) : Type 0 where
  pub there : room ≤ last_room blocks + spares * 1024
  pub needed : 0 < spares → last_room blocks + spares * 1024 < room + 1024
  pub short : room ≡ 0 → LastIsShort blocks

-- The block has all 1,024 slots, and no message.
pub record IsWhole (b : Stretch) : Type 0 where
  pub none : b.entries ≡ []
  pub room : b.room ≡ 1024
  pub slots : b.slots ≡ 1024

-- each block is whole and empty (`IsWhole`)
abbrev pub AreWhole : List Stretch → Type 0
AreWhole blocks = All IsWhole blocks

-- if there were bits for `n` further blocks, there still are, for each `n`
abbrev pub HoldAsMany : Vec Stretch → SlotBits → Vec Stretch → SlotBits → Type 0
HoldAsMany blocks bits blocks' bits' = (n : ℕ) → vec_len blocks + n ≤ bits.places → vec_len blocks' + n ≤ bits'.places

-- `p` is true of some element
abbrev pub some_pass : {X : Type 0} → (X → Bool) → List X → Bool
some_pass p xs = is_some (find p xs)

-- The bit of each block says whether it has a ready message.
abbrev pub AreBlocksSigned : List (List Entry) → SlotBits → Type 0
AreBlocksSigned parts bits = AreSetBy (some_pass is_ready) [] parts bits

-- Each block has a bit, which says whether it has a ready message. There are no more bits than the list has room for.
pub record AreMarked (blocks : Vec Stretch) (bits : SlotBits) : Type 0 where
  pub signed : AreBlocksSigned (parts blocks.items) bits
  pub places : HavePlaces blocks bits

-- The bits are right for the blocks, and suffice for the spare blocks, too, which are whole and empty.
pub record AreKept (blocks : Vec Stretch) (bits : SlotBits) (spares : Vec Stretch) : Type 0 where
  pub marked : AreMarked blocks bits
  pub held : vec_len blocks + vec_len spares ≤ bits.places
  pub whole : AreWhole spares.items

-- the sum of `f` over the list
abbrev pub total : {X : Type 0} → (X → ℕ) → List X → ℕ
total f [] = 0
total f (x ∷ xs) = f x + total f xs

-- `f` of the element, or 0 if there is none
abbrev pub size_of : {X : Type 0} → (X → ℕ) → Option X → ℕ
size_of f None = 0
size_of f (Some x) = f x

-- the bytes of the body if the message is ready, and otherwise 0
abbrev pub ready_size : Entry → ℕ
ready_size e = cond (is_ready e) (body_bytes e) 0

-- the body has more bytes than 64 bits can count
abbrev pub is_long : Entry → Bool
is_long e = nat_lt 18446744073709551615 (body_bytes e)

-- The counts kept beside the entries are right. No two messages are held by the same holder, and no body is so long that the bodies
-- of the ready messages together could have more bytes than 128 bits count.
pub record IsCounted (entries : List Entry) (ready live bytes : ℕ) : Type 0 where
  pub ready_count : ready ≡ tally is_ready entries
  pub live_count : live ≡ length entries
  pub sum : bytes ≡ total ready_size entries
  pub distinct : (holder : Holder) → tally (is_held_as holder) entries ≤ 1
  pub short : tally is_long entries ≡ 0

-- The slots are at most twice the messages, plus the promised room, plus 3,072. The promised room plus the messages fit in 64 bits.
pub record IsBounded (room live : ℕ) (blocks spares : List Stretch) : Type 0 where
  pub filled : AreFilled 1024 blocks
  pub few : slots_of blocks + slots_of spares ≤ length (joined (parts blocks)) * 2 + room + 3072
  pub fits : room + live ≤ 18446744073709551615

-- The marks, counts, promised room and spare blocks that an `Indexed` keeps are right for its blocks.
abbrev pub IsIndexed : Vec Stretch → Vec Stretch → SlotBits → (ready live bytes room : ℕ) → Type 0
IsIndexed blocks spares bits ready live bytes room =
    AreKept blocks bits spares × IsCounted (joined (parts blocks.items)) ready live bytes × HasRoom room blocks.items (vec_len spares)
    × IsBounded room live blocks.items spares.items
