use Rattle.state_routes.proofs.Sure.{kept_decides}
use Rattle.state_routes.proofs.routes.Routes.is_kept.Goals as goal

pub returns-clause-promise : goal.returns-clause-promise
returns-clause-promise c = kept_decides c.in_ok-yes.yes c.args.letters.now c.args.state.now c.args.self.now c.in_ok-yes.ensures
