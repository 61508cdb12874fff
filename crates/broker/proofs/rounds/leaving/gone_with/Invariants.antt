use Rattle.broker.proofs.Names.{◌<◌, channel_in, Nobody, AreAdded, IsConsumerIn}
use Rattle.broker.proofs.rounds.leaving.gone_with.Given as goal

-- those of the channels before the place are added
abbrev pub invariant-loop-place : goal.invariant-loop-place
invariant-loop-place l = record {
  added : AreAdded l.connection (λ h k. (h < l.place) × IsConsumerIn (channel_in l.running h) k) l.count Nobody l.initial.named l.gone l.named;
}
