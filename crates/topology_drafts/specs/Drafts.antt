-- The names that a draft has indexed.
use Rattle.std.specs.Prelude.{◌≡◌, List}
use Rattle.model.specs.Words.{Text}
use Rattle.model.specs.Topology.{exchange_names, queue_names}
use Rattle.model.specs.declared.topologies.Exchange.{Exchange}
use Rattle.model.specs.declared.topologies.DeclaredQueue.{DeclaredQueue}

-- `of_exchanges` are the names of the exchanges, and `of_queues` those of the queues, in order
pub record KnowsNames (of_exchanges of_queues : List Text) (exchanges : List Exchange) (queues : List DeclaredQueue) : Type 0 where
  pub of_exchanges_is : of_exchanges ≡ exchange_names exchanges
  pub of_queues_is : of_queues ≡ queue_names queues
