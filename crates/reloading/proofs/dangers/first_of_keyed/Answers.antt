use Rattle.reloading.proofs.Names.{◌≡◌, false, rules, subst, Option, List}
use Rattle.paths.specs.declared.visits.Visit.{Visit}
use Rattle.reloading.specs.Forbidding.{ReturnsLetter}
use Rattle.reloading.proofs.dangers.first_of_keyed.Goals as goal

pub returns-in-None : goal.returns-in-None
returns-in-None c i g lt at danger =
    let ends = subst (λ (z : Option (List Visit)). ReturnsLetter c.args.topology.now c.args.queue.now c.as_bytes.result.now z) c.in-None.is c.in_ok-explored.ensures in
    ends danger.later.exchange danger.later.last danger.later.dies

pub returns-then-not-is_covered : goal.returns-then-not-is_covered
returns-then-not-is_covered c i g lt at danger =
    let f : c.in_ok-is_covered.is_covered ≡ false = search rules in
    c.in_ok-is_covered.ensures f i g lt at c.args.topology.now c.args.queue.now danger
