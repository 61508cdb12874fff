use Rattle.queue.proofs.Names.{◌∙◌, ◌++◌, ap, List, Entry, contents, somes, Slot}
use Rattle.queue.proofs.Slotted.{entries-both}
use Rattle.queue.proofs.slots.move_in.Goals as goal

pub returns-clause-entries : goal.returns-clause-entries
returns-clause-entries c =
    ap (λ (ss : List Slot). somes (contents ss)) c.move_all.ensures.items ∙ entries-both c.drop_empty.new.slots.items _
    ∙ ap (λ (es : List Entry). es ++ somes (contents c.drop_empty-2.new.slots.items)) c.drop_empty.ensures.entries
    ∙ ap (λ (es : List Entry). somes (contents c.args.slots.now.items) ++ es) c.drop_empty-2.ensures.entries
