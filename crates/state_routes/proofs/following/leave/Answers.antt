use Rattle.state_routes.proofs.Names.{◌∙◌, length}
use Rattle.state_routes.proofs.Spreading.{left_all, gates_within, alternates_within}
use Rattle.state_routes.proofs.following.leave.Goals as goal

pub enter_open-requires : goal.enter_open-requires
enter_open-requires c =
    gates_within c.args.mode c.args.exits.now c.args.place c.index-exits-place.result c.args.accepted.now c.gates-gates.result.now c.alternates-alternates.result.now c.requires.place c.index-exits-place.is c.gates-gates.ensures c.alternates-alternates.ensures
    (length c.args.exits.now) (length c.args.marks.now) c.requires.bounded c.requires.size

pub enter_alternates-requires : goal.enter_alternates-requires
enter_alternates-requires c =
    alternates_within c.args.mode c.args.exits.now c.args.place c.index-exits-place.result c.args.accepted.now c.gates-gates.result.now c.alternates-alternates.result.now c.requires.place c.index-exits-place.is c.gates-gates.ensures c.alternates-alternates.ensures
    (length c.args.exits.now) _ c.requires.bounded (c.in_ok-enter_open.ensures.size ∙ c.requires.size)

pub returns : goal.returns
returns c =
    left_all c.args.mode c.args.exits.now c.args.place c.index-exits-place.result c.args.accepted.now c.gates-gates.result.now c.alternates-alternates.result.now c.requires.place c.index-exits-place.is c.gates-gates.ensures c.alternates-alternates.ensures
    c.args.marks.now _ _ c.args.rest.now.items _ _ c.in_ok-enter_open.ensures c.in_ok-enter_alternates.ensures
