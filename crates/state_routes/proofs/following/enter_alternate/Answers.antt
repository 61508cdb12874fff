use Rattle.state_routes.proofs.Names.{◌∙◌, sym}
use Rattle.state_routes.proofs.Spreading.{alternate_open, alternate_shut}
use Rattle.state_routes.proofs.following.enter_alternate.Goals as goal

pub returns-then-not-all_block : goal.returns-then-not-all_block
returns-then-not-all_block c = alternate_shut c.args.mode c.args.gates.now c.args.accepted.now c.args.link c.args.marks.now c.args.rest.now.items (sym c.all_block.ensures ∙ c.if-not-all_block.true)

pub returns : goal.returns
returns c = alternate_open c.args.mode c.args.gates.now c.args.accepted.now c.args.link c.args.marks.now _ c.args.rest.now.items _ (sym c.all_block.ensures ∙ c.if-not-all_block.false) c.in_ok-enter.ensures
