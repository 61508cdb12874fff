-- What a publish does to the queues and the notes.
use Rattle.std.specs.Prelude.{◌≡◌, ◌+◌, ℕ, List, ◌∷◌, ◌++◌, length, Option}
use Rattle.model.specs.Words.{Text}
use Rattle.model.specs.Topology.{queue_names}
use Rattle.model.specs.Routing.{Routes, Picks}
use Rattle.model.specs.Step.{message, entry_notes, comes_to, is_none, is_some_full}
use Rattle.model.specs.declared.contents.Content.{Content}
use Rattle.model.specs.declared.methods.Publish.{Publish}
use Rattle.model.specs.declared.notes.Note.{Note}
use Rattle.model.specs.declared.notes.Note.TheVariants.{Published}
use Rattle.model.specs.declared.notes.Way.TheVariants as way
use Rattle.depot.specs.declared.depots.Routed.{Routed}
use Rattle.depot.specs.Store.{Store, entries_named}

-- A publish on this channel, with this confirm number: the message is appended to each routed queue that is not full.
pub record Publishes (old : Store) (connection channel : ℕ) (p : Publish) (content : Content) (confirm : Option ℕ)
    (noted : List Note) (routed : Routed) (new : Store) : Type 0 where
  -- the routed queues, in the order of the definitions
  pub targets : List Text
  pub picked : Picks (Routes old.topology p.exchange p.routing_key) (queue_names old.topology.queues) targets
  pub notes : noted ≡ Published (old.published + 1) connection channel p.exchange p.routing_key confirm
      ∷ entry_notes old.topology (entries_named old) (length content.body) (old.published + 1) way.Publish targets
  pub none : routed.is_none ≡ is_none targets
  pub full : routed.is_some_full ≡ is_some_full old.topology (entries_named old) content targets
  pub counted : new.published ≡ old.published + 1
  pub topology : new.topology ≡ old.topology
  pub queues : (q : Text)
      → entries_named new q ≡ entries_named old q ++ comes_to old.topology (entries_named old) (message (old.published + 1) p content) q targets

-- The publish is done as `Publishes` says, and its notes are appended to `before`.
pub record Publishing (old : Store) (connection channel : ℕ) (p : Publish) (content : Content) (confirm : Option ℕ)
    (before after : List Note) (routed : Routed) (new : Store) : Type 0 where
  pub noted : List Note
  pub appended : after ≡ before ++ noted
  pub publishes : Publishes old connection channel p content confirm noted routed new
