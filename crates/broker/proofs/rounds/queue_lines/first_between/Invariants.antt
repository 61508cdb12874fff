use Rattle.broker.proofs.Names.{◌≤◌, ◌-◌, length, AreKept, QueuesAreMarked, NoneBetween, SameOrders}
use Rattle.commands.specs.State.{topology_kept}
use Rattle.broker.proofs.rounds.queue_lines.first_between.Given as goal

-- the lines are kept, each queue in whose line somebody is awake is marked, and from no queue before the next a delivery can be made
abbrev pub invariant-queues : goal.invariant-queues
invariant-queues l = record {
  kept : AreKept l.core l.lines;
  marked : QueuesAreMarked l.lines l.awake;
  least : l.from ≤ l.next;
  none : NoneBetween l.core l.from l.next;
  same : SameOrders l.fn.lines l.lines;
}

abbrev pub decreases-queues : goal.decreases-queues
decreases-queues l = length (topology_kept l.core).queues - l.next
