use Rattle.state_routes.proofs.Placing.{placed}
use Rattle.state_routes.proofs.places.add_place.Goals as goal

pub returns : goal.returns
returns c = placed c.args.place _ _ c.requires c.in_ok-push.ensures.items
