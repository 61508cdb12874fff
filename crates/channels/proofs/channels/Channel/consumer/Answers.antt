use Rattle.channels.proofs.Imports.{◌≡◌, subst, Open, AreNumbered, consumer_at}
use Rattle.std.specs.Prelude.{option_map}
use Rattle.channels.proofs.Numbering.{tells_one}
use Rattle.channels.proofs.channels.Channel.consumer.Goals as goal

pub returns-clause-one : goal.returns-clause-one
returns-clause-one c = tells_one (λ k. k.now) c.args.self.now c.args.number c.numbered.result
    (subst (λ (ch : Open). AreNumbered ch.given.next_number ch.given.consumers) c.self.view_is c.self.invariant.2)
    (subst (λ (ch : Open). option_map (λ k. k.now) c.numbered.result ≡ consumer_at ch.given c.args.number) c.self.view_is c.numbered.ensures)
