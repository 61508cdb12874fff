-- What a purge leaves, as the model's state.
use Rattle.commands.proofs.Names.{◌≡◌, ◌∙◌, ◌++◌, ℕ, List, [], filter, ap, is_ready, ready_in, purge_notes, Purges, purge_sends, Send, Note, Store, entries_named, IsPurgedBy, Side, Turns, seen, state_of}
use Rattle.model.specs.declared.methods.Purge.{Purge}
use Rattle.channels.specs.Open.{Open}
use Rattle.commands.proofs.Staying.{channels_stay}

-- a queue that is purged, on a channel that stays as it is
pub purged_is : (s s' : Store) (ch : Open) (c h count : ℕ) (old new : Side) (m : Purge) (sends : List Send) (before notes : List Note) → Turns c h (seen s ch) (seen s' ch) old new
    → sends ≡ purge_sends c h m.no_wait (ready_in (entries_named s m.queue)) → before ≡ [] → IsPurgedBy s m.queue before notes count s'
    → Purges (state_of s old) c h m sends notes (state_of s' new)
purged_is s s' ch c h count old new m sends before notes turns sent none by = record {
  sent = sent;
  noted = by.noted ∙ ap (λ (ns : List Note). ns ++ purge_notes m.queue (filter is_ready (entries_named s m.queue))) none;
  left = record { counted = by.counted; queues = by.queues; connections = turns.connections; channels = channels_stay s s' ch c h old new by.topology turns };
}
