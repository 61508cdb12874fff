use Rattle.commands.proofs.Names.{◌∙◌, ap, refl, queue_names, Store, entries_named}
use Rattle.std.proofs.Common.{length}
use Rattle.commands.proofs.Stepping.{listed_none}
use Rattle.commands.proofs.cores.Core.new.Goals as goal

pub returns-clause-empty : goal.returns-clause-empty
returns-clause-empty c = record {
  counted = ap (λ (s : Store). s.published) c.in_ok-new.ensures;
  queues = λ q. ap (λ (s : Store). entries_named s q) c.in_ok-new.ensures ∙ listed_none (queue_names c.args.topology.queues) (length c.args.topology.queues) q;
  connections = λ d. rw c.new-2.ensures refl;
  channels = λ d h. rw c.new-2.ensures refl;
}
