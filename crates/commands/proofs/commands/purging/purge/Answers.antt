use Rattle.commands.proofs.Names.{◌≡◌, ◌∙◌, ap, sym, subst, ℕ, None, Text, Topology, ready_in, purge_sends, refusal_in, Entry, entries_named, queue_at, IsPurgedBy, IsQueueIndex, List}
use Rattle.commands.proofs.Purging.{purged_is}
use Rattle.commands.proofs.commands.purging.purge.Goals as goal

pub returns-clause-commands : goal.returns-clause-commands
returns-clause-commands c =
    let s = c.args.depot.now in
    let asked = c.args.purge.now in
    let place = c.in_ok-place.place in
    let at : IsQueueIndex s.topology asked.queue place = subst (λ (t : Topology). IsQueueIndex t asked.queue place) c.topology.ensures c.in_ok-place.ensures.index in
    let none : refusal_in s.topology asked.queue ≡ None = subst (λ (t : Topology). refusal_in t asked.queue ≡ None) c.topology.ensures (sym c.in_ok-place.ensures.refusal) in
    let here : queue_at s place ≡ entries_named s asked.queue = sym c.ghost_is_named.ensures.entries_are ∙ ap (entries_named s) at.named in
    let count : c.ready_at-count.result ≡ ready_in (entries_named s asked.queue) = c.ready_at-count.ensures ∙ ap (λ (es : List Entry). ready_in es) here in
    let sent = c.in_ok-step.ensures.sends ∙ ap (λ (n : ℕ). purge_sends c.args.id.connection c.args.id.number asked.no_wait n) count in
    let by : IsPurgedBy s asked.queue c.notes.result.items c.purge_at.new.notes.items c.in_ok-purge_at.field-0 c.purge_at.new.self =
    subst (λ (q : Text). IsPurgedBy s q c.notes.result.items c.purge_at.new.notes.items c.in_ok-purge_at.field-0 c.purge_at.new.self) at.named c.in_ok-purge_at.ensures.ok in
    λ ch content old new turns. (
      none,
      purged_is s c.purge_at.new.self ch c.args.id.connection c.args.id.number c.in_ok-purge_at.field-0 old new asked c.in_ok-step.step.sends.items c.notes.result.items c.purge_at.new.notes.items
          turns sent c.notes.ensures by,
    )

pub returns-clause-topology : goal.returns-clause-topology
returns-clause-topology c = c.in_ok-purge_at.ensures.ok.topology
