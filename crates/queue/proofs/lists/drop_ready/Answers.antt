use Rattle.queue.proofs.Names.{rules, filter_same, is_ready, Entry}
use Rattle.std.proofs.Common.{not}
use Rattle.queue.proofs.lists.drop_ready.Goals as goal

pub returns-clause-entries : goal.returns-clause-entries
returns-clause-entries c = filter_same _ (λ (e : Entry). not (is_ready e)) _ (λ x b f' r. search rules) _ _ c.retain.ensures.filtered
