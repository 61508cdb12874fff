use Rattle.commands.proofs.Names.{◌≡◌, ◌∙◌, ◌∷◌, ◌++◌, [], List, ap, refl, subst, sym, option_map, is_some, false≢true, first_ready, delivery_notes, Send, Note, AreAddressed, Entry, queue_name, entries_named, queue_at}
use Rattle.std.proofs.Common.{Some}
use Rattle.commands.proofs.Placing.{takes_within}
use Rattle.commands.proofs.Getting.{first_carried}
use Rattle.commands.proofs.Delivered.{ready_on, takes_there, delivered, takes_short}
use Rattle.commands.proofs.delivering.deliver_on.Goals as goal

pub ghost_is_named-requires : goal.ghost_is_named-requires
ghost_is_named-requires c = takes_within c.args.depot.now.topology c.in-Some.consumer.now c.args.channel.now.given.consumers c.requires.placed.consumers c.in-Some.ensures.listed

pub first_ready_at-requires : goal.first_ready_at-requires
first_ready_at-requires c = takes_within c.args.depot.now.topology c.in-Some.consumer.now c.args.channel.now.given.consumers c.requires.placed.consumers c.in-Some.ensures.listed

-- no message goes to a consumer that may take none
pub returns-in_default-clause-ok : goal.returns-in_default-clause-ok
returns-in_default-clause-ok c = λ old new turns pick. absurd (takes_there c.args.depot.now old c.args.pick c.args.channel.now turns.was c.in_default.ensures pick)

-- nor from a queue in which none is ready
pub returns-in_default-first_ready_at-clause-ok : goal.returns-in_default-first_ready_at-clause-ok
returns-in_default-first_ready_at-clause-ok c = λ old new turns pick.
    let s = c.args.depot.now in
    let same : first_ready (entries_named s (queue_name s.topology c.in-Some.consumer.now.queue)) ≡ option_map (λ e. e.now) c.first_ready_at.result = ap first_ready c.ghost_is_named.ensures.entries_are ∙ sym c.first_ready_at.ensures in
    let ready = ready_on s old c.args.pick c.args.channel.now c.in-Some.consumer.now turns.was c.in-Some.ensures pick in
    absurd (false≢true (ap is_some (sym (ap (option_map (λ e. e.now)) c.in_default-first_ready_at.is)) ∙ ap is_some (sym same ∙ ready)))

pub give_out-requires-clause-within : goal.give_out-requires-clause-within
give_out-requires-clause-within c = takes_within c.args.depot.now.topology c.in-Some.consumer.now c.args.channel.now.given.consumers c.requires.placed.consumers c.in-Some.ensures.listed

pub returns-clause-ok : goal.returns-clause-ok
returns-clause-ok c =
    let s = c.args.depot.now in
    let e : Entry = c.in-Some-first_ready_at.entry.now in
    let first : first_ready (queue_at s c.in-Some.consumer.now.queue) ≡ Some e = sym c.first_ready_at.ensures ∙ ap (option_map (λ e. e.now)) c.in-Some-first_ready_at.is in
    delivered s c.give_out.new.depot c.args.channel.now c.give_out.new.channel c.args.pick c.in-Some.consumer.now e c.next_tag-tag.result (queue_name s.topology c.in-Some.consumer.now.queue) c.in_ok-step.step.sends.items c.give_out.new.notes.items
    c.in-Some.ensures (ap first_ready c.ghost_is_named.ensures.entries_are ∙ first) c.next_tag-tag.ensures refl (c.in_ok-step.ensures.sends ∙ ap (λ (x : Send). x ∷ []) c.in_ok-send.ensures.send)
    (c.in_ok-give_out.ensures.notes e first ∙ ap (λ (ns : List Note). ns ++ delivery_notes c.in-Some.consumer.now.no_ack e.message.number (queue_name s.topology c.in-Some.consumer.now.queue)) c.notes.ensures)
    c.in_ok-give_out.ensures.gives

pub returns-clause-addressed : goal.returns-clause-addressed
returns-clause-addressed c = λ side there carried named.
    let s = c.args.depot.now in
    let q = queue_name s.topology c.in-Some.consumer.now.queue in
    let e : Entry = c.in-Some-first_ready_at.entry.now in
    let found : first_ready (entries_named s q) ≡ Some e = ap first_ready c.ghost_is_named.ensures.entries_are ∙ sym c.first_ready_at.ensures ∙ ap (option_map (λ e. e.now)) c.in-Some-first_ready_at.is in
    subst (λ (sends : List Send). AreAddressed c.args.pick.connection sends) (sym c.in_ok-step.ensures.sends)
    (c.in_ok-send.ensures.addressed (takes_short s side c.args.pick c.args.channel.now c.in-Some.consumer.now there c.in-Some.ensures named) (first_carried (entries_named s q) e (carried q) found), tt)
