use Rattle.exchange_graph.proofs.Names.{◌<◌, ℕ, IsSet}
use Rattle.exchange_graph.proofs.marks.pending.Given as goal

abbrev pub invariant-loop-place : goal.invariant-loop-place
invariant-loop-place l = (i : ℕ) → i < l.place → IsSet l.seen i → IsSet l.done i
