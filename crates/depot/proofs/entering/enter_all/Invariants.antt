use Rattle.depot.proofs.Names.{◌≡◌, ◌<◌, ◌+◌, ℕ, ◌++◌, length, vec_len, vec_capacity, All, ◌||◌, list_any, entries_of, places, outcomes, notes_of_outcomes, is_refusal, all_entered, IsRoomy}
use Rattle.model.specs.declared.notes.Way.TheVariants as way
use Rattle.depot.proofs.entering.enter_all.Given as goal

-- what was done and what the other turns will do is the whole, and there is room for it
abbrev pub invariant-loop-turn : goal.invariant-loop-turn
invariant-loop-turn l = record {
  len : length l.queues ≡ length l.fn.queues;
  within : All (λ (i : ℕ). i < length l.queues) (places l.turn-iterator.rest.items);
  room : IsRoomy l.queues (places l.turn-iterator.rest.items);
  refused : (l.is_some_refused || list_any is_refusal (outcomes way.Publish l.declared l.turn-iterator.rest.items (entries_of l.queues))) ≡ list_any is_refusal (outcomes way.Publish l.declared l.fn.turns.items (entries_of l.fn.queues));
  entries : all_entered (outcomes way.Publish l.declared l.turn-iterator.rest.items (entries_of l.queues)) (entries_of l.queues) ≡ all_entered (outcomes way.Publish l.declared l.fn.turns.items (entries_of l.fn.queues)) (entries_of l.fn.queues);
  notes : l.notes.items ++ notes_of_outcomes (outcomes way.Publish l.declared l.turn-iterator.rest.items (entries_of l.queues)) ≡ l.fn.notes.items ++ notes_of_outcomes (outcomes way.Publish l.declared l.fn.turns.items (entries_of l.fn.queues));
  notes_len : vec_len l.notes + length l.turn-iterator.rest.items ≡ vec_len l.fn.notes + vec_len l.fn.turns;
  notes_capacity : vec_capacity l.notes ≡ vec_capacity l.fn.notes;
}
