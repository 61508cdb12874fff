use Rattle.depot.proofs.Names.{◌≡◌, ℕ, [], length, drop, Topology, IsWellFormed, Returns, waiting, Store, entries_of, AreSettledBy, store_of}
use Rattle.depot.proofs.settling.requeue_in.Given as goal

-- once what is from here on is ready again, all is
abbrev pub invariant-loop-given : goal.invariant-loop-given
invariant-loop-given l = record {
  len : length l.queues ≡ length l.fn.queues;
  returned : (t : Topology) (n : ℕ) (last : Store) → IsWellFormed t → length l.fn.queues ≡ length t.queues
      → AreSettledBy Returns (store_of t (entries_of l.queues) n) l.id.connection l.id.number (waiting (drop l.given-index l.gone)) [] [] last
      → AreSettledBy Returns (store_of t (entries_of l.fn.queues) n) l.id.connection l.id.number (waiting l.gone) [] [] last;
}
