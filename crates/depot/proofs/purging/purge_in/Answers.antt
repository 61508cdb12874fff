use Rattle.depot.proofs.Names.{sym, ◌∙◌}
use Rattle.depot.proofs.Purged.{none_ready}
use Rattle.depot.proofs.purging.purge_in.Goals as goal

pub returns-then-count-eq0-clause-entries : goal.returns-then-count-eq0-clause-entries
returns-then-count-eq0-clause-entries c = sym (none_ready c.args.queue.now.entries (sym c.ready-count.ensures ∙ c.if-count-eq0.true))
