use Rattle.std.proofs.Common.{◌≡◌, ◌+◌, ◌++◌, drop}
use Rattle.scripts.specs.Transcript.{shown_from}
use Rattle.scripts.proofs.transcript.put_connections.Given as goal

abbrev pub invariant-loop-shown : goal.invariant-loop-shown
invariant-loop-shown l = record {
  number : l.number ≡ l.shown-index + 1;
  text : l.text.items ++ shown_from l.number (drop l.shown-index l.connections) ≡ l.fn.text.items ++ shown_from 1 l.connections;
}
