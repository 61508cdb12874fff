use Rattle.exchange_graph.proofs.Names.{List, length, sym, ap, ◌∙◌, arith, Text, End, ends_under}
use Rattle.exchange_graph.proofs.Keying.{none_put, put_all, put_more}
use Rattle.exchange_graph.proofs.keyed.keyed.Goals as goal

pub loop-way-init : goal.loop-way-init
loop-way-init c = record {
  even = ap (λ (ks : List Text). length ks) c.none.ensures ∙ sym (ap (λ (ls : List (List End)). length ls) c.new.ensures.items);
  reported = λ key. none_put key c.args.ways.now (record { keys = c.none.result; lists = c.new.result }) c.none.ensures;
}

pub loop-way-preserved : goal.loop-way-preserved
loop-way-preserved c = record {
  even = c.in_ok-put.ensures.even;
  reported = λ key.
      put_more key c.args.ways.now c.loop-way.way-index c.way-item.result c.as_bytes.result.now (ends_under key c.loop-way.keyed) _ (omega arith) c.way-item.is c.as_bytes.ensures
      (c.in_ok-put.ensures.reported key) (c.loop-way.invariant.reported key);
}

pub returns : goal.returns
returns c = record {
  even = c.loop-way.invariant.even;
  reported = λ key. put_all key c.args.ways.now c.loop-way.way-index (ends_under key c.loop-way.keyed) (omega arith) (c.loop-way.invariant.reported key);
}
