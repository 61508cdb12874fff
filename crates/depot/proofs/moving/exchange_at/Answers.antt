use Rattle.depot.proofs.Names.{◌∙◌, List, ap, map, sym, get_or-set_same, survived_now, Entry, Line}
use Rattle.depot.proofs.Changes.{entries_of-at, entries_of-set}
use Rattle.depot.proofs.Moved.{drop_twice}
use Rattle.depot.proofs.moving.exchange_at.Goals as goal

pub returns-clause-entries : goal.returns-clause-entries
returns-clause-entries c =
    entries_of-set c.args.queues.now c.args.place c.swap.new.x _
    (ap (λ (l : Line). l.entries) (c.swap.ensures.x_after ∙ get_or-set_same c.args.old.now c.args.from c.mark_reloaded.new.self _ c.requires.from) ∙ c.mark_reloaded.ensures.entries
    ∙ ap (λ (es : List Entry). map survived_now es) (sym (entries_of-at c.args.old.now c.args.from _ c.requires.from)))

pub returns-clause-rest : goal.returns-clause-rest
returns-clause-rest c = drop_twice c.args.old.now c.args.from c.mark_reloaded.new.self c.swap.new.y
