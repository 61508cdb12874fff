use Rattle.definitions.proofs.Imports.{rules, tests, YieldsList-from_slice, cases_from_all, IsPermitted}
use Rattle.definitions.proofs.Deciding.{decides_all}
use Rattle.definitions.proofs.causes.are_permitted.Goals as goal

pub returns : goal.returns
returns c =
    let Holds = IsPermitted c.args.permitted.now in
    decides_all Holds c.all.result c.args.users.now
    (cases_from_all _ _ _ Holds (λ x. Holds x → ⊥) c.all.ensures.ran (YieldsList-from_slice c.args.users.now cc) (λ x q k. search (rules, tests)) (λ x q k. search (rules, tests)))
