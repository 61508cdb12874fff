use Rattle.channels.proofs.Imports.{◌∙◌, sym}
use Rattle.channels.proofs.Making.{any_tagged}
use Rattle.channels.proofs.channels.Channel.has_tagged.Goals as goal

pub returns : goal.returns
returns c names = rw (← c.self.view_is) (c.has.ensures ∙ sym (any_tagged names c.args.tag.now c.self.inside.consumers.consumers))
