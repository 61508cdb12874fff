use Rattle.queue.proofs.Names.{◌∙◌, ◌≡◌, ap, length, rules, List, is_some, vec_len, filter_same, contents, somes, Slot}
use Rattle.queue.proofs.Slotted.{length-dropped, somes-dropped}
use Rattle.queue.proofs.slots.drop_empty.Goals as goal

pub returns-clause-entries : goal.returns-clause-entries
returns-clause-entries c =
    ap (λ (ss : List Slot). somes (contents ss)) (filter_same _ (λ (s : Slot). is_some s.entry) _ (λ x b f' r. search rules) _ _ c.retain.ensures.filtered)
    ∙ somes-dropped c.args.slots.now.items

pub returns-clause-closed : goal.returns-clause-closed
returns-clause-closed c =
    let l : vec_len c.retain.new.self ≡ length c.retain.new.self.items = search rules in
    l ∙ ap (λ (ss : List Slot). length ss) (filter_same _ (λ (s : Slot). is_some s.entry) _ (λ x b f' r. search rules) _ _ c.retain.ensures.filtered)
    ∙ length-dropped c.args.slots.now.items
