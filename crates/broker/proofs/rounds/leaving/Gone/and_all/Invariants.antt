use Rattle.broker.proofs.Names.{AreAdded}
use Rattle.std.proofs.Common.{◌≡◌}
use Rattle.broker.proofs.Adding.{IsFirstOf}
use Rattle.broker.proofs.rounds.leaving.Gone.and_all.Given as goal

-- those before the index are added
abbrev pub invariant-loop-index : goal.invariant-loop-index
invariant-loop-index l = record {
  added : AreAdded l.id.connection (λ h k. (h ≡ l.id.number) × IsFirstOf l.index l.channel.given.consumers k) l.count l.initial.gone l.initial.named l.gone l.named;
}
