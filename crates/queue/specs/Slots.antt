-- Slots in the order of arrival, of which some are empty (own).
use Rattle.std.specs.Prelude.{◌≡◌, ℕ, ◌≤◌, ◌+◌, List, [], ◌∷◌, length, map, slice_set, vec_len, vec_capacity, Bool, false, cond, Option, Some, None, get_or}
use Rattle.std.specs.Global.{Vec}
use Rattle.model.specs.Broker.{is_ready}
use Rattle.model.specs.declared.messages.Entry.{Entry}
use Rattle.model.specs.declared.messages.Holder.{Holder}
use Rattle.marks.specs.Sets.{bit_of, Differs}
use Rattle.model.specs.Entries.{is_held_as}
use Rattle.queue.specs.declared.slots.Slot.{Slot}

-- the entry of each slot, if it has one
abbrev pub contents : List Slot → List (Option Entry)
contents slots = map (λ (s : Slot). s.entry) slots

-- the elements of a list of optional elements, in order
abbrev pub somes : {X : Type 0} → List (Option X) → List X
somes [] = []
somes (None ∷ xs) = somes xs
somes (Some x ∷ xs) = x ∷ somes xs

-- the slot has an element, and `p` is true of it
abbrev pub slot_has : {X : Type 0} → (X → Bool) → Option X → Bool
slot_has p None = false
slot_has p (Some x) = p x

-- the element of the slot, if any, changed by `f`
abbrev pub changed : {X : Type 0} → (X → X) → Option X → Option X
changed f None = None
changed f (Some x) = Some (f x)

-- the entry of the slot at index `place`, if any
abbrev pub slot_at : List Slot → ℕ → Option Entry
slot_at slots place = get_or (contents slots) place None

-- the entry of each slot, with `f` applied to that of the slot at index `place`
abbrev pub slot_changed : (Entry → Entry) → List Slot → ℕ → List (Option Entry)
slot_changed f slots place = slice_set (contents slots) place (changed f (slot_at slots place))

-- the vector is as long as before, and its capacity is the same
abbrev pub KeepsSize : {X : Type 0} → Vec X → Vec X → Type 0
KeepsSize old new = (vec_len new ≡ vec_len old) × (vec_capacity new ≡ vec_capacity old)

-- the vector is no longer than before, and its capacity is the same
abbrev pub IsNoLonger : {X : Type 0} → Vec X → Vec X → Type 0
IsNoLonger old new = (vec_len new ≤ vec_len old) × (vec_capacity new ≡ vec_capacity old)

-- 1 for yes, 0 for no
abbrev pub num : Bool → ℕ
num b = cond b 1 0

-- the number of elements for which `p` is true
abbrev pub tally : {X : Type 0} → (X → Bool) → List X → ℕ
tally p [] = 0
tally p (x ∷ xs) = num (p x) + tally p xs

-- the words of the set of ready slots, and the number of slots that have a bit
pub record SlotBits : Type 0 where
  pub ready : List ℕ
  pub places : ℕ

-- no bit differs
abbrev pub SameBits : SlotBits → SlotBits → Type 0
SameBits old new = (k : ℕ) → bit_of new.ready k ≡ bit_of old.ready k

-- Only the bit of index `place` differs: it is `bit` now.
pub record BitTurned (old new : SlotBits) (place bit : ℕ) : Type 0 where
  pub turned : Differs (bit_of old.ready) (bit_of new.ready) place bit
  pub places : new.places ≡ old.places

-- the bit of each index says whether `p` is true of the element there, or of `none` if there is none
abbrev pub AreSetBy : {X : Type 0} → (X → Bool) → X → List X → SlotBits → Type 0
AreSetBy p none xs bits = (i : ℕ) → bit_of bits.ready i ≡ num (p (get_or xs i none))

-- The bit of each slot says whether it has a ready message.
abbrev pub AreSigned : List (Option Entry) → SlotBits → Type 0
AreSigned slots bits = AreSetBy (slot_has is_ready) None slots bits

-- The bits and the count kept beside the slots are right, and no two messages are held by the same holder.
pub record BitsShow (slots : List (Option Entry)) (bits : SlotBits) (live : ℕ) : Type 0 where
  pub signed : AreSigned slots bits
  pub live_count : live ≡ length (somes slots)
  pub distinct : (holder : Holder) → tally (is_held_as holder) (somes slots) ≤ 1

-- Each of `slots` slots has a bit, and there are no more bits than the vector has capacity.
pub record HasPlaces (slots capacity places : ℕ) : Type 0 where
  pub used : slots ≤ places
  pub kept : places ≤ capacity

-- each element of the vector has a bit, and there are at most as many bits as the vector's capacity (`HasPlaces`)
abbrev pub HavePlaces : {X : Type 0} → Vec X → SlotBits → Type 0
HavePlaces slots bits = HasPlaces (vec_len slots) (vec_capacity slots) bits.places

-- The bits and the count of a block are right for its slots, and each slot up to the capacity has a bit.
abbrev pub IsBlock : Vec Slot → SlotBits → ℕ → Type 0
IsBlock slots bits live = BitsShow (contents slots.items) bits live × (vec_capacity slots ≤ bits.places)
