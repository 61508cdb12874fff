-- A queue as a list of entries in arrival order.
use Rattle.std.specs.Prelude.{ℕ, List, length, filter, map, Bool}
use Rattle.model.specs.Broker.{is_ready}
use Rattle.model.specs.Entries.{freed}
use Rattle.model.specs.declared.messages.Entry.{Entry}
use Rattle.model.specs.declared.messages.Holder.{Holder}

-- the entries in arrival order, and the number of pushes that need no allocation
pub record Line : Type 0 where
  pub entries : List Entry
  pub room : ℕ

-- the number of ready entries
abbrev pub ready_count : List Entry → ℕ
ready_count entries = length (filter is_ready entries)

-- the entries, with each one held by a holder in `mine` made ready again in its place (AMQP 0-9-1, channel.close; own: exactly its place)
abbrev pub requeued : (Holder → Bool) → List Entry → List Entry
requeued mine entries = map (freed mine) entries
