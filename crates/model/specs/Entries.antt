-- Single entries of a queue: who holds them, and what becomes of them. Source: AMQP
-- 0-9-1, section 3.1.2, "Queues", and its XML's rules of basic.ack and basic.recover.
use Rattle.std.specs.Prelude.{ℕ, List, [], ◌∷◌, Bool, true, false, ◌==◌, ◌&&◌, if◌then◌else◌}
use Rattle.model.specs.declared.messages.Entry.{Entry}
use Rattle.model.specs.declared.messages.Holder.{Holder}
use Rattle.model.specs.declared.messages.Mark.TheVariants.{Ready, Held}

-- ---- who holds it

-- Whether the holder is channel `h` of connection `c`.
abbrev pub by_channel : ℕ → ℕ → Holder → Bool
by_channel c h holder = (holder.connection == c) && (holder.channel == h)

-- Whether the holder is a channel of connection `c`.
abbrev pub by_connection : ℕ → Holder → Bool
by_connection c holder = holder.connection == c

-- Whether `h` has the channel and the delivery tag of `holder`.
abbrev pub is_under : Holder → Holder → Bool
is_under holder h = by_channel holder.connection holder.channel h && h.tag == holder.tag

-- Whether the entry is held, by a holder in `mine`.
abbrev pub is_held_by : (Holder → Bool) → Entry → Bool
is_held_by mine e = elim e.mark [ Ready ↦ false | Held h ↦ mine h ]

-- Whether the entry is held under the channel and the delivery tag of `holder`.
abbrev pub is_held_as : Holder → Entry → Bool
is_held_as holder = is_held_by (is_under holder)

-- ---- what becomes of it

-- The entry, ready again and marked as redelivered if a holder in `mine` held it, and otherwise unchanged.
abbrev pub freed : (Holder → Bool) → Entry → Entry
freed mine e = elim e.mark [ Ready ↦ e | Held holder ↦ if mine holder then record e { message = record e.message { redelivered = true }; mark = Ready } else e ]

-- The entry, ready again and marked as redelivered.
abbrev pub freed_now : Entry → Entry
freed_now e = record e { message = record e.message { redelivered = true }; mark = Ready }

-- The entry, held by `holder`.
abbrev pub held_as : Holder → Entry → Entry
held_as holder e = record e { mark = Held holder }

-- The list with its first element that passes `p` changed by `f`.
abbrev pub change_first : {X : Type 0} → (X → Bool) → (X → X) → List X → List X
change_first p f [] = []
change_first p f (x ∷ xs) = if p x then f x ∷ xs else x ∷ change_first p f xs

-- The list without its first element that passes `p`.
abbrev pub without_first : {X : Type 0} → (X → Bool) → List X → List X
without_first p [] = []
without_first p (x ∷ xs) = if p x then xs else x ∷ without_first p xs

-- The publish number of the entry's message.
abbrev pub number_of : Entry → ℕ
number_of e = e.message.number
