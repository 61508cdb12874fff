use Rattle.channels.proofs.Imports.{◌∙◌, sym, ap, Some}
use Rattle.channels.proofs.Halving.{find_at}
use Rattle.channels.proofs.consumers.counted_consumer.Goals as goal

pub returns-in-Some : goal.returns-in-Some
returns-in-Some c =
    let at = c.in-Some.ensures.some in
    ap Some c.index-consumers-place.is ∙ sym (find_at c.args.number c.requires.0 c.args.consumers.now c.in-Some.place c.index-consumers-place.result c.requires.1 at.within (at.numbered c.index-consumers-place.result))
