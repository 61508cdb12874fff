use Rattle.assembly.proofs.Imports.{◌∙◌, sym, rules, seen}
use Rattle.assembly.proofs.Whole.{whole}
use Rattle.assembly.proofs.publishes.whole_publish.Goals as goal

pub returns-clause-gives : goal.returns-clause-gives
returns-clause-gives c = λ bytes begins.
    whole c.args.max c.args.keeps c.args.contents.now bytes c.args.rest.now (seen c.args.frame.now) c.in_ok-frames.frames c.in_ok-publish.publish c.in_ok-content.content
    (search rules) (c.awaits_method.ensures (search rules)) begins (search rules) (sym c.is_on_wrong_channel.ensures ∙ c.if-is_on_wrong_channel.false)
    c.in_ok-publish.ensures c.in_ok-frames.ensures c.in_ok-content.ensures
