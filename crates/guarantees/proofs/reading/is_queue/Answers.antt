use Rattle.guarantees.proofs.Names.{◌<◌, List, ℕ, [], length, refl, subst, IsIn, queue_names}
use Rattle.std.proofs.lemmas.List.{length-map}
use Rattle.topology_drafts.proofs.Members.{in_get}
use Rattle.guarantees.proofs.reading.is_queue.Goals as goal

pub returns-in-Some : goal.returns-in-Some
returns-in-Some c =
    let xs = queue_names c.args.topology.now.queues in
    let inside : c.in-Some.field-0 < length xs = rw length-map c.in-Some.ensures.within in
    (λ e. subst (λ (x : List ℕ). IsIn x xs) c.in-Some.ensures.named (in_get xs c.in-Some.field-0 [] inside), λ h. refl)
