use Rattle.channels.proofs.Imports.{◌≡◌, ◌+◌, ◌≤◌, sum_by, min, greatest, consumers_counted}
use Rattle.std.specs.HashMap.{values}
use Rattle.channels.proofs.connections.count_consumers.Given as goal

-- what is counted, and what is still to be counted, is the whole
abbrev pub invariant-loop-running : goal.invariant-loop-running
invariant-loop-running l = record {
  whole : min (l.count + sum_by (consumers_counted l.queue) l.running-iterator) greatest ≡ min (sum_by (consumers_counted l.queue) (values l.connections)) greatest;
  most : l.count ≤ greatest;
}
