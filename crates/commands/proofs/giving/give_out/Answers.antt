use Rattle.commands.proofs.Names.{◌≡◌, ◌∙◌, ◌++◌, Bool, Option, ap, arith, refl, sym, subst, delivery_notes, first_ready, left_note, Entry, Auto, queue_name, queue_at, settled_on, IsPlaced, GivesHere}
use Rattle.std.proofs.lemmas.Grind.{common_steps}
use Rattle.channels.specs.Open.{Open}
use Rattle.commands.proofs.Placing.{placed_as, placed_given}
use Rattle.commands.proofs.GivenOut.{held_is, tag_free, taken_is}
use Rattle.commands.proofs.giving.give_out.Goals as goal

pub returns-then-no_ack-clause-gives : goal.returns-then-no_ack-clause-gives
returns-then-no_ack-clause-gives c =
    subst (λ (b : Bool). GivesHere c.args.id.connection c.args.id.number c.args.depot.now c.args.channel.now b c.args.index c.args.by c.take_at.new.self c.give_settled.new.self) (sym c.if-no_ack.true)
    (taken_is c.args.id.connection c.args.id.number c.args.index c.args.by c.args.depot.now c.take_at.new.self c.args.channel.now c.give_settled.new.self c.ghost_is_named.ensures c.take_at.ensures.given_out c.give_settled.ensures)

pub returns-then-no_ack-clause-notes : goal.returns-then-no_ack-clause-notes
returns-then-no_ack-clause-notes c =
    let q = queue_name c.args.depot.now.topology c.args.index in
    let noted : c.take_at.new.notes.items ≡ c.args.notes.now.items ++ left_note Auto q (first_ready (queue_at c.args.depot.now c.args.index)) = grind (arith, common_steps) in
    λ e found. noted ∙ ap (λ (o : Option Entry). c.args.notes.now.items ++ left_note Auto q o) found ∙ ap (λ (b : Bool). c.args.notes.now.items ++ delivery_notes b e.message.number q) (sym c.if-no_ack.true)

pub returns-then-no_ack-clause-in_range : goal.returns-then-no_ack-clause-in_range
returns-then-no_ack-clause-in_range c =
    subst (IsPlaced c.args.depot.now.topology) (sym c.give_settled.ensures) (placed_as c.args.depot.now.topology c.args.channel.now (settled_on c.args.channel.now) c.requires.can.placed refl refl)

pub take_at-requires-2-clause-free : goal.take_at-requires-2-clause-free
take_at-requires-2-clause-free c =
    tag_free c.args.id.connection c.args.id.number c.args.index c.next_tag.result c.args.by c.args.depot.now c.args.channel.now c.requires.can c.ghost_is_named.ensures
    (c.next_tag.ensures ∙ ap (λ (x : Open). x.given.next_tag) c.in_ok-reserve.ensures.same)

pub returns-clause-gives : goal.returns-clause-gives
returns-clause-gives c =
    subst (λ (b : Bool). GivesHere c.args.id.connection c.args.id.number c.args.depot.now c.args.channel.now b c.args.index c.args.by c.take_at-2.new.self c.give.new.self) (sym c.if-no_ack.false)
    (held_is c.args.id.connection c.args.id.number c.args.index c.in-Some.arrival c.next_tag.result c.reserve.new.self.given.room c.args.by c.args.depot.now c.take_at-2.new.self c.args.channel.now c.reserve.new.self c.give.new.self
    c.ghost_is_named.ensures c.in_ok-reserve.ensures.same c.next_tag.ensures c.take_at-2.ensures.given_out c.give.ensures)

pub returns-clause-notes : goal.returns-clause-notes
returns-clause-notes c =
    let q = queue_name c.args.depot.now.topology c.args.index in
    λ e found. c.take_at-2.ensures.notes ∙ ap (λ (b : Bool). c.args.notes.now.items ++ delivery_notes b e.message.number q) (sym c.if-no_ack.false)

pub returns-clause-in_range : goal.returns-clause-in_range
returns-clause-in_range c =
    subst (IsPlaced c.args.depot.now.topology) (sym c.give.ensures)
    (placed_given c.args.depot.now.topology c.args.channel.now c.reserve.new.self c.args.index c.in-Some.arrival c.args.by c.requires.within
    (ap (λ (x : Open). x.given.outstanding) c.in_ok-reserve.ensures.same) (ap (λ (x : Open). x.given.consumers) c.in_ok-reserve.ensures.same) c.requires.can.placed)
