use Rattle.channels.proofs.Imports.{◌∙◌, refl, sym, ap, subst, arith, List, take, waiting, consumers_of, counted_out, NumbersRise, Consumer, Delivery}
use Rattle.channels.proofs.Counting.{same_consumers}
use Rattle.channels.proofs.Halving.{out_none, out_waiting}
use Rattle.channels.proofs.consumers.count_each_out.Goals as goal

pub loop-one-init : goal.loop-one-init
loop-one-init c = sym (out_none c.args.consumers.now)

pub count_waiting_out-requires : goal.count_waiting_out-requires
count_waiting_out-requires c =
    let done : List Delivery = waiting (take c.loop-one.one-index c.args.gone.now) in
    subst (λ (cs : List Consumer). NumbersRise cs) (sym (ap consumers_of c.loop-one.invariant ∙ same_consumers (counted_out done) (λ s. refl) c.args.consumers.now)) c.requires

pub loop-one-preserved : goal.loop-one-preserved
loop-one-preserved c =
    out_waiting c.args.gone.now c.loop-one.one-index _ _ c.args.consumers.now _ _ (let t = c.loop-one-test.true in omega arith) refl c.loop-one.invariant c.count_waiting_out.ensures.counted c.count_waiting_out.ensures.gone_already
