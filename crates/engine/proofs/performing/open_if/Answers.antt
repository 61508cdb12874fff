use Rattle.engine.proofs.Names.{refl, ◌∙◌}
use Rattle.broker.specs.Turns.{broker_of}
use Rattle.engine.proofs.Waiting.{same_later}
use Rattle.engine.proofs.Asked.{unmoved}
use Rattle.engine.proofs.performing.open_if.Goals as goal

pub returns-in_default : goal.returns-in_default
returns-in_default c = record {
  ok = unmoved (broker_of c.args.broker.now) c.args.c c.args.session.now.phase c.args.session.now refl (λ is. c.in_default.not-Running (c.phase.ensures ∙ is));
  err = tt;
  topology = refl;
  turn = refl;
  later = same_later c.args.broker.now;
}
