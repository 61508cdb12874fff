use Rattle.depot.proofs.Names.{◌≡◌, ◌<◌, ◌++◌, ◌∙◌, List, ap, sym, subst, refl, length, get_or, set, filter, IfOk, OnErr, arith, Topology, IsWellFormed, Text, is_ready, ready_in, purge_notes, Entry, queue_name, Line, ready_count, Store, IsStoreWhole, queue_at, entries_of, store_of, no_line, IsPurgedBy}
use Rattle.std.proofs.Common.{not}
use Rattle.depot.proofs.Changes.{entries_of-length, changed_write}
use Rattle.depot.proofs.Lending.{lent_entries, lent_queue}
use Rattle.depot.proofs.Planned.{name_there}
use Rattle.depot.proofs.Purged.{purged_by, if_ok, on_err, same_store}
use Rattle.depot.proofs.depots.Depot.purge_at.Goals as goal

pub returns-clause-ok : goal.returns-clause-ok
returns-clause-ok c =
    let t = c.self.inside.router in
    let lines = c.self.inside.queues in
    let index = c.args.index in
    let before = c.args.notes.now.items in
    let after = c.purge_in.new.notes.items in
    let w : Line = c.purge_in.new.queue in
    let was : Store = store_of t (entries_of lines) c.self.inside.published in
    let now : Store = store_of t (entries_of (set lines index w)) c.self.inside.published in
    let same : c.topology-topology.result.now ≡ t = c.topology-topology.ensures in
    let whole : IsStoreWhole was = record { formed = subst IsWellFormed same c.ghost_is_well_formed.ensures; len = entries_of-length lines ∙ c.self.invariant } in
    let lt : index < length t.queues = subst (λ (s : Store). index < length s.topology.queues) (sym c.self.view_is) c.requires in
    let len = c.self.invariant in
    let within : index < length lines = omega (arith, lt, len) in
    let there : c.queue.result.now ≡ get_or t.queues index c.queue.result.now = c.queue.ensures ∙ ap (λ (u : Topology). get_or u.queues index c.queue.result.now) same in
    let name : c.queue.result.now.name ≡ queue_name t index = name_there t.queues index c.queue.result.now lt there in
    let lent : c.queue_mut.result.now.entries ≡ queue_at was index = lent_entries lines index c.queue_mut.result.now within c.queue_mut.ensures.value in
    let stays = λ (es : List Entry). filter (λ (x : Entry). not (is_ready x)) es in
    let e = c.purge_in.ensures in
    subst (λ (s : Store). IfOk c.purge_in.result (λ count. IsPurgedBy s (queue_name s.topology index) before after count now)) c.self.view_is
    (if_ok c.purge_in.result
    (λ count reported noted entries.
    purged_by was now index before after count whole lt refl refl (reported ∙ ap ready_in lent)
    (noted ∙ ap (λ (q : Text). before ++ purge_notes q (filter is_ready c.queue_mut.result.now.entries)) name ∙ ap (λ (es : List Entry). before ++ purge_notes (queue_name t index) (filter is_ready es)) lent)
    (changed_write stays lines index w no_line within (entries ∙ ap (λ (l : Line). stays l.entries) c.queue_mut.ensures.value)))
    e.reported e.noted e.entries)

pub returns-clause-unchanged : goal.returns-clause-unchanged
returns-clause-unchanged c = on_err c.purge_in.result (λ same. same_store c.self.inside.router c.self.inside.queues c.self.inside.published c.args.index _ c.queue_mut.result.now c.purge_in.new.queue c.self.view_is c.queue_mut.ensures.value same) c.purge_in.ensures.queue

pub returns-clause-wanted : goal.returns-clause-wanted
returns-clause-wanted c =
    let is = lent_queue c.self.inside.router c.self.inside.queues c.self.inside.published c.args.index _ c.queue_mut.result.now c.self.view_is c.self.invariant c.requires c.queue_mut.ensures.value in
    subst (λ (es : List Entry). OnErr c.purge_in.result (0 < ready_count es)) is c.purge_in.ensures.wanted
