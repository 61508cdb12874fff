use Rattle.broker.proofs.Names.{◌∙◌, eqb-true}
use Rattle.broker.proofs.Found.{able, elsewhere}
use Rattle.broker.proofs.rounds.finding.QueueTakersTakersPick.may_take.Goals as goal

pub returns-in-From-clause-yes : goal.returns-in-From-clause-yes
returns-in-From-clause-yes c = λ e ready.
    let t = c.in-From.ensures in
    able c.args.self.now.core.now c.args.self.now.queue c.args.item.now t.0 c.ghost_is_kept.ensures.whole ready t.1 (t.2 ∙ eqb-true c.in-From.place c.args.self.now.queue e)

pub returns-in-From-clause-no : goal.returns-in-From-clause-no
returns-in-From-clause-no c = λ e its.
    let t = c.in-From.ensures in
    absurd (elsewhere c.args.self.now.core.now c.args.self.now.queue c.in-From.place c.args.item.now t.0 c.ghost_is_kept.ensures.whole t.1 t.2 e its)
