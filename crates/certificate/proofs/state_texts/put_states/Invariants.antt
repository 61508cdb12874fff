use Rattle.certificate.proofs.Names.{◌≡◌, ◌++◌, AllByRecursion, drop, map, compact_text, items_of, items_text, state_data, states_data, states_of}
use Rattle.certificate.specs.Writes.{AreNarrow}
use Rattle.certificate.proofs.state_texts.put_states.Given as goal

-- the text, with the states that follow, is the whole text
abbrev pub invariant-loop-state : goal.invariant-loop-state
invariant-loop-state l = record {
  text : l.text.items ++ items_text l.later (items_of (map state_data (states_of (drop l.state-index l.states)))) ≡ l.fn.text.items ++ compact_text (states_data (states_of l.states));
  narrow : AllByRecursion AreNarrow (states_of (drop l.state-index l.states)) → AllByRecursion AreNarrow (states_of l.states);
}
