use Rattle.queue.proofs.Names.{◌∙◌, ap, filter, Entry, is_held_as}
use Rattle.std.proofs.Common.{not}
use Rattle.queue.proofs.Firsts.{rest_filtered}
use Rattle.queue.proofs.lists.remove.Goals as goal

pub returns-clause-entries : goal.returns-clause-entries
returns-clause-entries c =
    c.drop_held.ensures.entries ∙ ap (filter (λ (e : Entry). not (is_held_as c.args.holder.now e))) c.take_held-entry.ensures.entries
    ∙ rest_filtered (is_held_as c.args.holder.now) c.args.entries.now.items
