use Rattle.broker.proofs.Names.{◌≤◌, ◌-◌, length, NoneMarked}
use Rattle.commands.specs.State.{topology_kept}
use Rattle.broker.proofs.rounds.queue_lines.next_both.Given as goal

-- from no marked queue before the next a delivery can be made
abbrev pub invariant-turns : goal.invariant-turns
invariant-turns l = record {
  least : l.from ≤ l.next;
  none : NoneMarked l.core l.awake l.from l.next;
}

abbrev pub decreases-turns : goal.decreases-turns
decreases-turns l = length (topology_kept l.core).queues - l.next
