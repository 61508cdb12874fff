use Rattle.queue.proofs.Names.{rules, tests, is_ready}
use Rattle.std.proofs.lemmas.Iterator.{YieldsList-from_slice}
use Rattle.std.proofs.lemmas.Iterator.Consumers.{YieldsList-from_filter, count_from_yields_List}
use Rattle.queue.proofs.lists.ready_count.Goals as goal

pub returns : goal.returns
returns c =
    count_from_yields_List c.filter.result _ c.count.ensures.ran
    (YieldsList-from_filter _ is_ready (YieldsList-from_slice c.args.entries.now (cc)) c.filter.ensures.closure (λ x b q k. search (rules, tests)))
