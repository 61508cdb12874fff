use Rattle.state_routes.proofs.Names.{arith, subst, ℕ, AreEmpty}
use Rattle.state_routes.proofs.Leaving.{none_yet, one_empty}
use Rattle.state_routes.proofs.exits.no_exits.Goals as goal

pub loop-place-init : goal.loop-place-init
loop-place-init c = none_yet c.new-exits.result.items c.new-exits.ensures.items

pub loop-place-preserved : goal.loop-place-preserved
loop-place-preserved c = one_empty c.loop-place.exits.items _ c.loop-place.place c.none.result c.loop-place.invariant c.none.ensures c.in_ok-push.ensures.items

pub returns : goal.returns
returns c = subst (λ (n : ℕ). AreEmpty n c.loop-place.exits.items) (omega arith) c.loop-place.invariant
