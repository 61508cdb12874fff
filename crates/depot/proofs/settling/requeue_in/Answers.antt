use Rattle.depot.proofs.Names.{◌∙◌, List, [], sym, length, arith, subst, drop_all, Returns, waiting, Delivery, entries_of, AreSettledBy, store_of}
use Rattle.depot.proofs.Changes.{entries_of-length}
use Rattle.depot.proofs.Settled.{returned_next, none_returns}
use Rattle.depot.proofs.Waiting.{nothing, of_next}
use Rattle.depot.proofs.settling.requeue_in.Goals as goal

pub put_back-requires : goal.put_back-requires
put_back-requires c = of_next (length c.args.queues.now) (length c.loop-given.queues) c.args.gone.now c.loop-given.given-index nothing c.requires c.loop-given.invariant.len (let t = c.loop-given-test.true in omega arith)

pub loop-given-preserved : goal.loop-given-preserved
loop-given-preserved c =
    let inv = c.loop-given.invariant in
    let lt = c.loop-given-test.true in
    let within = of_next (length c.args.queues.now) (length c.loop-given.queues) c.args.gone.now c.loop-given.given-index nothing c.requires inv.len (omega arith) in
    let was = entries_of-length c.loop-given.queues in
    record {
      len = c.put_back.ensures.len ∙ inv.len;
      returned = λ t n last formed len rest.
          inv.returned t n last formed len
          (returned_next t n c.args.id.connection c.args.id.number c.args.gone.now c.loop-given.given-index nothing (entries_of c.loop-given.queues) (entries_of c.put_back.new.queues) last formed
          (was ∙ inv.len ∙ len) (omega arith) (λ w. let l = within w in omega (arith, l, was)) c.put_back.ensures.returned c.put_back.ensures.gone_already rest);
    }

pub returns-clause-settled : goal.returns-clause-settled
returns-clause-settled c = λ t formed len n.
    let past = c.loop-given-test.false in
    c.loop-given.invariant.returned t n (store_of t (entries_of c.loop-given.queues) n) formed len
    (subst (λ (ds : List Delivery). AreSettledBy Returns (store_of t (entries_of c.loop-given.queues) n) c.args.id.connection c.args.id.number (waiting ds) [] [] (store_of t (entries_of c.loop-given.queues) n))
    (sym (drop_all c.loop-given.given-index c.args.gone.now (omega arith))) (none_returns (store_of t (entries_of c.loop-given.queues) n) c.args.id.connection c.args.id.number))
