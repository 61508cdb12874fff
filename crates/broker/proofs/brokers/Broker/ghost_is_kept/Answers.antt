use Rattle.broker.proofs.Names.{subst, WaitersAreConsumers}
use Rattle.broker.proofs.Turning.{waiters_own}
use Rattle.broker.proofs.brokers.Broker.ghost_is_kept.Goals as goal

pub returns : goal.returns
returns c = subst WaitersAreConsumers c.self.view_is (waiters_own c.self.inside.core c.self.inside.rounds c.self.inside.turn c.self.invariant.kept_so)
