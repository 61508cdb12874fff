use Rattle.reloading.proofs.Names.{◌∙◌, sym, arith, false≢true, Guarantee, Endangers}
use Rattle.reloading.proofs.First.{there_at}
use Rattle.reloading.proofs.Narrowed.{none_next}
use Rattle.reloading.proofs.dangers.first_of_explored.Goals as goal

pub endangers-requires-clause-forbidding : goal.endangers-requires-clause-forbidding
endangers-requires-clause-forbidding c =
    let s = c.requires.forbidding.size in
    let b = c.requires.bound in
    c.requires.forbidding.each c.loop-at.at c.index-guarantees-at.result c.index-forbidding-at.result
    (there_at c.args.guarantees.now c.loop-at.at c.index-guarantees-at.result (omega (arith, b)) c.index-guarantees-at.is)
    (there_at c.args.forbidding.now c.loop-at.at c.index-forbidding-at.result (omega (arith, s, b)) c.index-forbidding-at.is)

pub returns-then-branch : goal.returns-then-branch
returns-then-branch c =
    let b = c.requires.bound in
    record {
      within = omega arith;
      guarantee = c.index-guarantees-at.result;
      there = there_at c.args.guarantees.now c.loop-at.at c.index-guarantees-at.result (omega (arith, b)) c.index-guarantees-at.is;
      endangers = c.in_ok-endangers.ensures.0 c.if-branch.true;
      none_before = c.loop-at.invariant;
    }

pub loop-at-preserved : goal.loop-at-preserved
loop-at-preserved c =
    let b = c.requires.bound in
    none_next c.args.guarantees.now (λ (z : Guarantee). Endangers c.args.topology.now z c.args.queue.now c.args.message.now → ⊥) c.loop-at.at c.index-guarantees-at.result
    (there_at c.args.guarantees.now c.loop-at.at c.index-guarantees-at.result (omega (arith, b)) c.index-guarantees-at.is) c.loop-at.invariant
    (λ danger. false≢true (sym c.if-branch.false ∙ c.in_ok-endangers.ensures.1 danger))
