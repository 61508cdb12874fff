-- A broker as its callers see it: its state, and the order in which consumers are served (own).
use Rattle.std.specs.Prelude.{ℕ, List, Option, map}
use Rattle.model.specs.Topology.{Topology}
use Rattle.model.specs.Broker.{Broker}
use Rattle.model.specs.declared.events.Send.{Send}
use Rattle.commands.specs.Picked as picked
use Rattle.commands.specs.State as core
use Rattle.commands.specs.State.{Kept}
use Rattle.commands.specs.declared.picks.Pick.{Pick}
use Rattle.broker.specs.Rounds.{Rounds, order}

-- The broker's state, and the order in which consumers are served.
pub record WithTurn : Type 0 where
  pub kept : Kept
  -- the consumer that was picked, until something is delivered
  pub turn : Option Pick
  -- for each queue, in the order of the definitions, its consumers in the order in which their turns come
  pub lines : List (List Pick)
  -- the index of the queue at which the round over the queues begins
  pub next : ℕ

-- the broker with the state `kept` and the lines `r`, whose picked consumer is `turn`
abbrev pub with_turn : Kept → Rounds → Option Pick → WithTurn
with_turn kept r turn = record {
  kept = kept;
  turn = turn;
  lines = map order r.lines;
  next = r.next;
}

-- the topology that the broker runs
abbrev pub topology_kept : WithTurn → Topology
topology_kept b = core.topology_kept b.kept

-- the broker's state, as the model has it
abbrev pub broker_of : WithTurn → Broker
broker_of b = core.broker_of b.kept

-- if each message can be encoded, and consumers have tags, each of `sends` is for `c`, by a method that can be encoded
abbrev pub AddressesTo : WithTurn → ℕ → List Send → Type 0
AddressesTo b c sends = picked.AddressesTo (topology_kept b) (broker_of b) c sends
