use Rattle.depot.proofs.Names.{◌≡◌, [], entries_of}
use Rattle.std.proofs.Common.{replicate}
use Rattle.depot.proofs.queues.empty_queues.Given as goal

-- this many queues are there
abbrev pub invariant-loop : goal.invariant-loop
invariant-loop l = entries_of l.queues.items ≡ replicate l.counter []
