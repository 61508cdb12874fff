use Rattle.exchange_graph.proofs.Names.{◌≡◌, ◌++◌, drop, set_indices}
use Rattle.exchange_graph.proofs.marks.set_indices.Given as goal

abbrev pub invariant-loop-place : goal.invariant-loop-place
invariant-loop-place l = l.places.items ++ set_indices l.place (drop l.place l.marks) ≡ set_indices 0 l.marks
