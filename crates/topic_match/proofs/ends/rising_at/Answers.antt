use Rattle.topic_match.proofs.Sorting.{sorted_found}
use Rattle.topic_match.proofs.ends.rising_at.Goals as goal

pub returns : goal.returns
returns c =
    sorted_found c.args.lists.now c.args.met.now c.args.count c.in_ok-found.found.items c.sort.new.self.items c.in_ok-found.ensures c.sort.ensures.permutation c.in_ok-sort.ensures.sorted
