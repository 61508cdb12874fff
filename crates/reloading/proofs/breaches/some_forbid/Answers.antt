use Rattle.reloading.proofs.Names.{◌∙◌, ◌≡◌, sym, arith, false≢true, Guarantee}
use Rattle.model.specs.declared.topologies.Mode.TheVariants.{Never}
use Rattle.reloading.proofs.First.{there_at}
use Rattle.reloading.proofs.Narrowed.{none_next}
use Rattle.reloading.proofs.breaches.some_forbid.Goals as goal

pub returns-then-forbids-clause-some : goal.returns-then-forbids-clause-some
returns-then-forbids-clause-some c e = record {
  place = c.loop-at.at;
  guarantee = c.index-guarantees-at.result;
  there = there_at c.args.guarantees.now c.loop-at.at c.index-guarantees-at.result (omega arith) c.index-guarantees-at.is;
  never = c.forbids.ensures.0 c.if-forbids.true;
}

pub loop-at-preserved : goal.loop-at-preserved
loop-at-preserved c =
    none_next c.args.guarantees.now (λ (z : Guarantee). z.mode ≡ Never → ⊥) c.loop-at.at c.index-guarantees-at.result
    (there_at c.args.guarantees.now c.loop-at.at c.index-guarantees-at.result (omega arith) c.index-guarantees-at.is) c.loop-at.invariant
    (λ never. false≢true (sym c.if-forbids.false ∙ c.forbids.ensures.1 never))
