use Rattle.depot.proofs.Names.{◌≡◌, length, take, waiting, entries_of, EnterBelow, Extends, so_far}
use Rattle.depot.proofs.Foreseen.{ForeseesAll}
use Rattle.depot.proofs.rejecting.plan_all.Given as goal

-- those before the index that wait are planned
abbrev pub invariant-loop-given : goal.invariant-loop-given
invariant-loop-given l = record {
  foreseen : ForeseesAll l.fn.router l.id (waiting (take l.given-index l.gone)) (entries_of l.queues) l.fn.notes.items (so_far l.plan l.notes);
  within : EnterBelow (length l.queues) l.plan.arrivals.items;
  notes : Extends l.fn.notes.items l.notes.items;
  same : l.router ≡ l.fn.router;
}
