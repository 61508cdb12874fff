use Rattle.definitions.proofs.Imports.{rules, tests, YieldsList-from_slice, cases_from_all, IsOfUser}
use Rattle.definitions.proofs.Deciding.{decides_all}
use Rattle.definitions.proofs.causes.are_of_users.Goals as goal

pub returns : goal.returns
returns c =
    let Holds = IsOfUser c.args.users.now in
    decides_all Holds c.all.result c.args.permissions.now
    (cases_from_all _ _ _ Holds (λ x. Holds x → ⊥) c.all.ensures.ran (YieldsList-from_slice c.args.permissions.now cc) (λ x q k. search (rules, tests)) (λ x q k. search (rules, tests)))
