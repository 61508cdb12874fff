use Rattle.certificate.proofs.Names.{◌≡◌, ◌++◌, drop, map, compact_text, items_of, items_text, number_data, state_data}
use Rattle.certificate.specs.Writes.{AreNarrow}
use Rattle.certificate.proofs.state_texts.put_state.Given as goal

-- the text, with the numbers that follow, is the whole text
abbrev pub invariant-loop-number : goal.invariant-loop-number
invariant-loop-number l = record {
  text : l.text.items ++ items_text l.later (items_of (map number_data (drop l.number-index l.state))) ≡ l.fn.text.items ++ compact_text (state_data l.state);
  narrow : AreNarrow (drop l.number-index l.state) → AreNarrow l.state;
}
