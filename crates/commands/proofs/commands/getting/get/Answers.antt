use Rattle.commands.proofs.Names.{◌≡◌, ◌-◌, ◌∙◌, ◌∷◌, ◌++◌, [], ℕ, List, None, ap, sym, subst, option_map, err_from_is_err_and, Text, Topology, queue_names, first_ready, ready_in, delivery_notes, Send, Note, AreAddressed, refusal_in, Entry, queue_name, entries_named, IsQueueIndex, seen, state_of}
use Rattle.std.proofs.Common.{Some}
use Rattle.commands.proofs.Getting.{gotten, first_carried, first_named, there}
use Rattle.commands.proofs.commands.getting.get.Goals as goal

pub returns-in_err-check_tag-clause-commands : goal.returns-in_err-check_tag-clause-commands
returns-in_err-check_tag-clause-commands c = λ content old new turns.
    let s = c.args.depot.now in
    let asked = c.args.get.now in
    let e : Entry = c.in-Some.entry.now in
    let at : IsQueueIndex s.topology asked.queue c.in_ok-place.place = subst (λ (t : Topology). IsQueueIndex t asked.queue c.in_ok-place.place) c.topology.ensures c.in_ok-place.ensures.index in
    let is : None ≡ refusal_in s.topology asked.queue = c.in_ok-place.ensures.refusal ∙ ap (λ (t : Topology). refusal_in t asked.queue) c.topology.ensures in
    let found : first_ready (entries_named s asked.queue) ≡ Some e = first_named s c.in_ok-place.place asked.queue (Some e) at c.ghost_is_named.ensures (sym (ap (option_map (λ e. e.now)) c.in-Some.is) ∙ c.first_ready_at.ensures) in
    let p = err_from_is_err_and c.from_residual-in_err-check_tag.result c.from_residual-in_err-check_tag.ensures.1 in
    rw (p.1, p.2) (there s.topology (state_of s old) (seen s c.args.channel.now) asked (Some e) is found ∙ sym (c.in_err-check_tag.ensures.refusal (queue_names s.topology.queues) e))

pub returns-clause-commands : goal.returns-clause-commands
returns-clause-commands c = λ content old new turns.
    let s = c.args.depot.now in
    let ch = seen s c.args.channel.now in
    let asked = c.args.get.now in
    let e : Entry = c.in-Some.entry.now in
    let q : Text = queue_name s.topology c.in_ok-place.place in
    let at : IsQueueIndex s.topology asked.queue c.in_ok-place.place = subst (λ (t : Topology). IsQueueIndex t asked.queue c.in_ok-place.place) c.topology.ensures c.in_ok-place.ensures.index in
    let is : None ≡ refusal_in s.topology asked.queue = c.in_ok-place.ensures.refusal ∙ ap (λ (t : Topology). refusal_in t asked.queue) c.topology.ensures in
    let first : Some e ≡ option_map (λ e. e.now) c.first_ready_at.result = sym (ap (option_map (λ e. e.now)) c.in-Some.is) in
    let found : first_ready (entries_named s asked.queue) ≡ Some e = first_named s c.in_ok-place.place asked.queue (Some e) at c.ghost_is_named.ensures (first ∙ c.first_ready_at.ensures) in
    let here : first_ready (entries_named s q) ≡ Some e = ap first_ready c.ghost_is_named.ensures.entries_are ∙ sym (first ∙ c.first_ready_at.ensures) in
    let noted : c.give_out.new.notes.items ≡ delivery_notes asked.no_ack e.message.number asked.queue =
    c.in_ok-give_out.ensures.notes e (sym (first ∙ c.first_ready_at.ensures)) ∙ ap (λ (ns : List Note). ns ++ delivery_notes asked.no_ack e.message.number q) c.notes.ensures ∙ ap (delivery_notes asked.no_ack e.message.number) at.named in
    let count : c.saturating_sub-remaining.result ≡ ready_in (entries_named s q) - 1 = c.saturating_sub-remaining.ensures ∙ ap (λ (n : ℕ). n - 1) (c.ready_at.ensures ∙ sym (ap ready_in c.ghost_is_named.ensures.entries_are)) in (
      there s.topology (state_of s old) ch asked (Some e) is found ∙ sym (c.in_ok-check_tag.ensures.refusal (queue_names s.topology.queues) e),
      gotten (state_of s old) (state_of c.give_out.new.depot new) c.args.id.connection c.args.id.number ch asked q e c.next_tag-tag.result c.saturating_sub-remaining.result c.in_ok-step.step.sends.items c.give_out.new.notes.items
          at.named here c.next_tag-tag.ensures count (c.in_ok-step.ensures.sends ∙ ap (λ (x : Send). x ∷ []) c.in_ok-send.ensures.send) noted (c.in_ok-give_out.ensures.gives old new turns),
    )

pub returns-clause-addressed : goal.returns-clause-addressed
returns-clause-addressed c = λ said.
    let s = c.args.depot.now in
    let e : Entry = c.in-Some.entry.now in
    let q : Text = queue_name s.topology c.in_ok-place.place in
    let here : first_ready (entries_named s q) ≡ Some e = ap first_ready c.ghost_is_named.ensures.entries_are ∙ sym c.first_ready_at.ensures ∙ ap (option_map (λ e. e.now)) c.in-Some.is in
    subst (λ (sends : List Send). AreAddressed c.args.id.connection sends) (sym c.in_ok-step.ensures.sends) (c.in_ok-send.ensures.addressed (first_carried (entries_named s q) e (said.1 q) here), tt)
