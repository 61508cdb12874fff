use Rattle.std.proofs.Common.{◌≡◌, ◌≤◌, ◌-◌}
use Rattle.sockets.specs.Traffic.{traffic_of}
use Rattle.sockets.proofs.sockets.Sockets.first_with_room.Given as goal

abbrev pub invariant-loop-slot : goal.invariant-loop-slot
invariant-loop-slot l = record {
  traffic : traffic_of l.self ≡ traffic_of l.fn.self;
  least : l.from ≤ l.slot;
  most : l.slot ≤ l.end;
}

abbrev pub decreases-loop-slot : goal.decreases-loop-slot
decreases-loop-slot l = l.end - l.slot
