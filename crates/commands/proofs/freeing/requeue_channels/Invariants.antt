use Rattle.commands.proofs.Names.{◌≡◌, drop, Store, AreReturnedFrom}
use Rattle.commands.proofs.freeing.requeue_channels.Given as goal

-- once what is outstanding on the channels from here on is ready again, all is
abbrev pub invariant-loop-place : goal.invariant-loop-place
invariant-loop-place l = record {
  topology : l.depot.topology ≡ l.fn.depot.topology;
  returned : (last : Store) → AreReturnedFrom l.connection l.place l.depot (drop l.place l.running.channels) last → AreReturnedFrom l.connection 0 l.fn.depot l.running.channels last;
}
