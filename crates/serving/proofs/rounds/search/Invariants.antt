use Rattle.serving.proofs.Names.{◌≡◌, ◌<◌, ℕ, IsOther}
use Rattle.serving.proofs.rounds.search.Given as goal

abbrev pub invariant-loop-slot : goal.invariant-loop-slot
invariant-loop-slot l = record {
  kept : l.quiet ≡ l.fn.quiet;
  so_far : (i : ℕ) → i < l.slot → IsOther l.c l.peers.slots i;
}
