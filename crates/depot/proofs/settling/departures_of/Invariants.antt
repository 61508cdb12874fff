use Rattle.depot.proofs.Names.{◌≡◌, ◌≤◌, ◌++◌, length, map, drop, vec_len, vec_capacity, waiting, departure_in}
use Rattle.depot.proofs.settling.departures_of.Given as goal

-- those that were added and those that the rest adds are the whole, and there is room for them
abbrev pub invariant-loop-given : goal.invariant-loop-given
invariant-loop-given l = record {
  departures : l.departures.items ++ map (departure_in l.topology) (waiting (drop l.given-index l.gone)) ≡ map (departure_in l.topology) (waiting l.gone);
  len : vec_len l.departures ≤ l.given-index;
  room : length l.gone ≤ vec_capacity l.departures;
}
