use Rattle.commands.proofs.Names.{◌∙◌, [], List, None, get_or, subst, arith, Returns, Delivery, Store, AreSettledBy, outstanding_on}
use Rattle.commands.proofs.Freed.{requeue_next, requeue_ends}
use Rattle.commands.proofs.freeing.requeue_channels.Goals as goal

pub loop-place-preserved : goal.loop-place-preserved
loop-place-preserved c =
    let connection = c.args.connection in
    let place = c.loop-place.place in
    let old : Store = c.loop-place.depot in
    let new : Store = c.requeue.new.self in
    let channels = c.args.running.now.channels in
    let places = c.slots-place-end.ensures.slots in
    let within = c.loop-place-test.true in
    let made : AreSettledBy Returns old connection place (outstanding_on (get_or channels place None)) [] [] new =
    subst (λ (os : List Delivery). AreSettledBy Returns old connection place os [] [] new) c.outstanding.ensures.all c.requeue.ensures in
    record {
      topology = made.topology ∙ c.loop-place.invariant.topology;
      returned = λ last rest. c.loop-place.invariant.returned last (requeue_next connection place channels old new last (omega (arith, places, within)) made rest);
    }

pub returns : goal.returns
returns c =
    let places = c.slots-place-end.ensures.slots in
    let past = c.loop-place-test.false in
    c.loop-place.invariant.returned c.loop-place.depot (requeue_ends c.args.connection c.loop-place.place c.args.running.now.channels c.loop-place.depot (omega (arith, places, past)))
