-- What a purge does to the queues and the notes (AMQP 0-9-1, queue.purge).
use Rattle.std.specs.Prelude.{◌≡◌, ◌++◌, ℕ, List, filter, not}
use Rattle.model.specs.Words.{Text}
use Rattle.model.specs.Broker.{is_ready}
use Rattle.model.specs.Deliveries.{with_queue, ready_in, purge_notes}
use Rattle.model.specs.declared.notes.Note.{Note}
use Rattle.depot.specs.Store.{Store, entries_named}

-- Exactly the ready messages have left the queue with this name, `count` of them. A note for each is appended, and nothing else
-- changed.
pub record IsPurgedBy (old : Store) (name : Text) (before after : List Note) (count : ℕ) (new : Store) : Type 0 where
  pub reported : count ≡ ready_in (entries_named old name)
  pub noted : after ≡ before ++ purge_notes name (filter is_ready (entries_named old name))
  pub queues : (q : Text) → entries_named new q
      ≡ with_queue (entries_named old) name (filter (λ e. not (is_ready e)) (entries_named old name)) q
  pub counted : new.published ≡ old.published
  pub topology : new.topology ≡ old.topology
