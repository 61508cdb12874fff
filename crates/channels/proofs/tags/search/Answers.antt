use Rattle.channels.proofs.Settlement.{absent_by}
use Rattle.channels.proofs.tags.search.Goals as goal

pub returns-clause-none : goal.returns-clause-none
returns-clause-none c = absent_by c.args.given.now c.lower-i.result c.args.tag c.requires c.lower-i.ensures.below c.lower-i.ensures.above (c.is_at.ensures.elsewhere c.if-is_at.false)
