-- The entries that an iterator over a queue still has to return (own).
use Rattle.std.specs.Prelude.{◌≡◌, List, [], ◌∷◌, ◌++◌}
use Rattle.model.specs.declared.messages.Entry.{Entry}
use Rattle.queue.specs.declared.walks.Ahead.{Ahead}
use Rattle.queue.specs.declared.walks.Ahead.TheVariants.{Entries, Blocks}
use Rattle.queue.specs.declared.slots.Slot.{Slot}
use Rattle.queue.specs.Slots.{contents, somes}
use Rattle.queue.specs.Blocks.{Stretch, parts, joined}

-- the entries of the slots, followed by those of the blocks
abbrev pub all_in : List Slot → List Stretch → List Entry
all_in slots blocks = somes (contents slots) ++ joined (parts blocks)

-- the entries that are still to come
abbrev pub entries_ahead : Ahead → List Entry
entries_ahead (Entries entries) = entries.now
entries_ahead (Blocks slots blocks) = all_in slots.now blocks.now

-- `first` is the first entry of `old`, and `new` has the rest
abbrev pub GoesOn : List Entry → List Entry → Entry → Type 0
GoesOn old new first = old ≡ first ∷ new

-- no entry is left
abbrev pub IsOver : List Entry → List Entry → Type 0
IsOver old new = (old ≡ []) × (new ≡ [])
