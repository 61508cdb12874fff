use Rattle.state_routes.proofs.Names.{refl}
use Rattle.state_routes.proofs.Spreading.{enters_new}
use Rattle.state_routes.proofs.following.enter.Goals as goal

pub returns : goal.returns
returns c = enters_new c.args.link c.args.marks.now _ c.args.rest.now.items _ c.requires c.if-marks-link.false refl c.in_ok-push.ensures.items
