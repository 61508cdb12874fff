use Rattle.channels.proofs.Imports.{◌≡◌, ◌∙◌, [], List, ap, sum_by, consumers_counted, Running}
use Rattle.std.specs.Map.Iter.{deref}
use Rattle.std.proofs.lemmas.Map.Iter.{rest_all}
use Rattle.channels.proofs.ConnectionsCounting.{counts_all, no_more}
use Rattle.channels.proofs.connections.count_consumers.Goals as goal

pub returns : goal.returns
returns c =
    let left : c.loop-running.running-iterator ≡ [] = rest_all deref c.loop-running.running-iterator c.next.new.self c.next.result c.in-None.is c.next.ensures.steps in
    let none : sum_by (consumers_counted c.args.queue) c.loop-running.running-iterator ≡ 0 = ap (λ (ls : List Running). sum_by (consumers_counted c.args.queue) ls) left in
    let all = no_more c.loop-running.count (sum_by (consumers_counted c.args.queue) c.loop-running.running-iterator) none c.loop-running.invariant.most ∙ c.loop-running.invariant.whole in record {
      counts = counts_all c.args.connections.now.entries c.args.queue c.loop-running.count c.values-running-items.ensures.unique all;
      all = all;
    }
