use Rattle.commands.proofs.Names.{subst, IsNextPicked, Kept}
use Rattle.commands.proofs.Picking.{next_is}
use Rattle.commands.proofs.cores.Core.next_ready.Goals as goal

pub returns : goal.returns
returns c =
    let kept : Kept = record { store = c.self.inside.depot; connections = c.self.inside.connections } in
    subst (λ (k : Kept). IsNextPicked k c.args.from c.next_ready.result) c.self.view_is
    (next_is kept c.args.from c.next_ready.result (λ place lt. c.ghost_indices_are_named.ensures kept.store place c.ghost_is_whole.ensures lt) c.next_ready.ensures.reported)
