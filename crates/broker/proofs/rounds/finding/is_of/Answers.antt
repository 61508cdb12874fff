use Rattle.broker.proofs.Names.{◌∙◌, sym, ◌==◌, eqb-true, eq-eqb, false≢true}
use Rattle.broker.proofs.Found.{gone_of, kept_of, taken_of}
use Rattle.broker.proofs.rounds.finding.is_of.Goals as goal

pub returns-in-Gone : goal.returns-in-Gone
returns-in-Gone c = sym (gone_of c.args.core.now c.args.queue c.args.pick c.in-Gone.ensures.0)

pub returns-in-Nothing : goal.returns-in-Nothing
returns-in-Nothing c =
    let place = c.in-Nothing.place in
    let t = c.in-Nothing.ensures in
    kept_of c.args.core.now c.args.queue place c.args.pick t.0 (place == c.args.queue) c.ghost_is_kept.ensures.whole t.1 t.2 (eqb-true place c.args.queue)
    (λ e same. false≢true (sym e ∙ eq-eqb place c.args.queue same))

pub returns-in-From : goal.returns-in-From
returns-in-From c =
    let place = c.in-From.place in
    let t = c.in-From.ensures in
    taken_of c.args.core.now c.args.queue place c.args.pick t.0 (place == c.args.queue) c.ghost_is_kept.ensures.whole t.1 t.2 (eqb-true place c.args.queue)
    (λ e same. false≢true (sym e ∙ eq-eqb place c.args.queue same))
