use Rattle.commands.proofs.Names.{◌≡◌, ◌∙◌, refl, sym, subst, true, false, Option, Err, IsMethod, Topology, refusal_while_closing, refusal_on_zero, refusal_of_queue_declare, Method, Answers, Asks, HasSpelling, seen, state_of}
use Rattle.std.proofs.Common.{Some}
use Rattle.model.specs.Step.{Refusal}
use Rattle.model.specs.declared.methods.Method.TheVariants.{QueueDeclare}
use Rattle.commands.specs.declared.refusals.Stop.TheVariants.{Refused}
use Rattle.commands.proofs.Answering.{has_open, open_here, done_here, as_nack, performed_addressed, left_answers, left_addressed, left_kept}
use Rattle.commands.proofs.Judging.{closing_is, zero_is}
use Rattle.commands.proofs.commands.on_channel.Goals as goal

pub returns-then-is_closing-clause-answers : goal.returns-then-is_closing-clause-answers
returns-then-is_closing-clause-answers c = λ old new conn same turns.
    let s = c.args.depot.now in
    let ch = seen s c.args.channel.now in
    let closing : ch.is_closing ≡ true = sym c.is_closing.ensures ∙ c.if-is_closing.true in
    subst (λ (r : Option Refusal). Answers r s.topology (state_of s old) c.args.id.connection c.args.id.number (Some ch) c.args.method.now c.args.content.now c.left.result (state_of s new)) (sym (closing_is s.topology (state_of s old) conn c.args.id.number c.args.method.now ch closing))
    (left_answers (refusal_while_closing c.args.method.now) s.topology (state_of s old) c.args.id.connection c.args.id.number (Some ch) c.args.method.now c.args.content.now (state_of s new) c.while_closing.result c.left.result c.left.ensures (c.while_closing.ensures s.topology ch closing))

pub returns-then-id-eq0-clause-answers : goal.returns-then-id-eq0-clause-answers
returns-then-id-eq0-clause-answers c = λ old new conn same turns.
    let s = c.args.depot.now in
    let ch = seen s c.args.channel.now in
    let runs : ch.is_closing ≡ false = sym c.is_closing.ensures ∙ c.if-is_closing.false in
    subst (λ (r : Option Refusal). Answers r s.topology (state_of s old) c.args.id.connection c.args.id.number (Some ch) c.args.method.now c.args.content.now c.left-then-id-eq0.result (state_of s new)) (sym (zero_is s.topology (state_of s old) conn c.args.id.number c.args.method.now (Some ch) runs c.if-id-eq0.true))
    (left_answers (refusal_on_zero c.args.method.now) s.topology (state_of s old) c.args.id.connection c.args.id.number (Some ch) c.args.method.now c.args.content.now (state_of s new) c.on_zero.result c.left-then-id-eq0.result c.left-then-id-eq0.ensures (c.on_zero.ensures s.topology (Some ch)))

pub returns-in-ChannelFlow-clause-answers : goal.returns-in-ChannelFlow-clause-answers
returns-in-ChannelFlow-clause-answers c =
    done_here c.args.channel_max c.args.id.connection c.args.id.number c.args.depot.now c.args.depot.now c.args.channel.now c.args.channel.now c.args.method.now c.args.content.now c.flow.result _ c.performed.ensures (sym c.is_closing.ensures ∙ c.if-is_closing.false) c.if-id-eq0.false (sym c.in_ok-check_number.ensures)
    (rw c.in-ChannelFlow.is (c.flow.ensures.commands c.args.depot.now c.args.channel.now c.args.content.now))

pub returns-in-ExchangeDeclare-clause-answers : goal.returns-in-ExchangeDeclare-clause-answers
returns-in-ExchangeDeclare-clause-answers c =
    done_here c.args.channel_max c.args.id.connection c.args.id.number c.args.depot.now c.args.depot.now c.args.channel.now c.args.channel.now c.args.method.now c.args.content.now c.find_exchange.result _ c.performed-in-ExchangeDeclare.ensures (sym c.is_closing.ensures ∙ c.if-is_closing.false) c.if-id-eq0.false (sym c.in_ok-check_number.ensures)
    (rw c.in-ExchangeDeclare.is (c.find_exchange.ensures.commands c.args.channel.now c.args.content.now))

pub returns-in-QueueDeclare-clause-answers : goal.returns-in-QueueDeclare-clause-answers
returns-in-QueueDeclare-clause-answers c =
    let s = c.args.depot.now in
    let ch = seen s c.args.channel.now in
    let declare = c.in-QueueDeclare.declare in
    let asks = subst (λ (t : Topology). Asks t (Some ch) (QueueDeclare declare) (refusal_of_queue_declare t declare) c.asked_queue.result) c.topology.ensures (c.asked_queue.ensures ch) in
    open_here c.args.channel_max c.args.id.connection c.args.id.number s s c.args.channel.now c.args.channel.now c.args.method.now c.args.content.now c.left-in-QueueDeclare.result (sym c.is_closing.ensures ∙ c.if-is_closing.false) c.if-id-eq0.false (sym c.in_ok-check_number.ensures)
    (λ old new turns. rw c.in-QueueDeclare.is (left_answers (refusal_of_queue_declare s.topology declare) s.topology (state_of s old) c.args.id.connection c.args.id.number (Some ch) (QueueDeclare declare) c.args.content.now (state_of s new)
    c.asked_queue.result c.left-in-QueueDeclare.result c.left-in-QueueDeclare.ensures asks))

pub returns-in-QueueDeclare-clause-addressed : goal.returns-in-QueueDeclare-clause-addressed
returns-in-QueueDeclare-clause-addressed c = λ said. left_addressed c.args.id.connection c.asked_queue.result c.left-in-QueueDeclare.result c.left-in-QueueDeclare.ensures

pub returns-in-QueueDeclare-clause-kept : goal.returns-in-QueueDeclare-clause-kept
returns-in-QueueDeclare-clause-kept c = left_kept ((c.args.depot.now ≡ c.args.depot.now) × (c.args.channel.now ≡ c.args.channel.now)) c.asked_queue.result c.left-in-QueueDeclare.result c.left-in-QueueDeclare.ensures (refl, refl)

pub returns-in-QueuePurge-clause-answers : goal.returns-in-QueuePurge-clause-answers
returns-in-QueuePurge-clause-answers c =
    done_here c.args.channel_max c.args.id.connection c.args.id.number c.args.depot.now c.purge.new.depot c.args.channel.now c.args.channel.now c.args.method.now c.args.content.now c.purge.result _ c.performed-in-QueuePurge.ensures (sym c.is_closing.ensures ∙ c.if-is_closing.false) c.if-id-eq0.false (sym c.in_ok-check_number.ensures)
    (rw c.in-QueuePurge.is (c.purge.ensures.commands c.args.channel.now c.args.content.now))

pub returns-in-BasicQos-clause-answers : goal.returns-in-BasicQos-clause-answers
returns-in-BasicQos-clause-answers c =
    done_here c.args.channel_max c.args.id.connection c.args.id.number c.args.depot.now c.args.depot.now c.args.channel.now c.limit.new.channel c.args.method.now c.args.content.now c.limit.result _ c.performed-in-BasicQos.ensures (sym c.is_closing.ensures ∙ c.if-is_closing.false) c.if-id-eq0.false (sym c.in_ok-check_number.ensures)
    (rw c.in-BasicQos.is (c.limit.ensures.commands c.args.depot.now c.args.content.now))

pub returns-in-BasicQos-clause-in_range : goal.returns-in-BasicQos-clause-in_range
returns-in-BasicQos-clause-in_range c = c.limit.ensures.in_range c.args.depot.now.topology c.requires.placed

pub returns-in-BasicConsume-clause-answers : goal.returns-in-BasicConsume-clause-answers
returns-in-BasicConsume-clause-answers c =
    done_here c.args.channel_max c.args.id.connection c.args.id.number c.args.depot.now c.args.depot.now c.args.channel.now c.consume.new.channel c.args.method.now c.args.content.now c.consume.result _ c.performed-in-BasicConsume.ensures (sym c.is_closing.ensures ∙ c.if-is_closing.false) c.if-id-eq0.false (sym c.in_ok-check_number.ensures)
    (rw c.in-BasicConsume.is (c.consume.ensures.commands c.args.content.now))

pub returns-in-BasicConsume-clause-addressed : goal.returns-in-BasicConsume-clause-addressed
returns-in-BasicConsume-clause-addressed c = λ said. performed_addressed c.args.id.connection _ c.consume.result c.performed-in-BasicConsume.result c.performed-in-BasicConsume.ensures (subst (λ (m : Method). IsMethod m) c.in-BasicConsume.is said.0) c.consume.ensures.addressed

pub returns-in-BasicCancel-clause-answers : goal.returns-in-BasicCancel-clause-answers
returns-in-BasicCancel-clause-answers c =
    done_here c.args.channel_max c.args.id.connection c.args.id.number c.args.depot.now c.args.depot.now c.args.channel.now c.cancel.new.channel c.args.method.now c.args.content.now c.cancel.result _ c.performed-in-BasicCancel.ensures (sym c.is_closing.ensures ∙ c.if-is_closing.false) c.if-id-eq0.false (sym c.in_ok-check_number.ensures)
    (rw c.in-BasicCancel.is (c.cancel.ensures.commands c.args.depot.now c.args.content.now))

pub returns-in-BasicCancel-clause-addressed : goal.returns-in-BasicCancel-clause-addressed
returns-in-BasicCancel-clause-addressed c = λ said. performed_addressed c.args.id.connection _ c.cancel.result c.performed-in-BasicCancel.result c.performed-in-BasicCancel.ensures (subst (λ (m : Method). IsMethod m) c.in-BasicCancel.is said.0) c.cancel.ensures.addressed

pub returns-in-BasicCancel-clause-in_range : goal.returns-in-BasicCancel-clause-in_range
returns-in-BasicCancel-clause-in_range c = c.cancel.ensures.in_range c.args.depot.now.topology c.requires.placed

pub returns-in-BasicPublish-clause-answers : goal.returns-in-BasicPublish-clause-answers
returns-in-BasicPublish-clause-answers c =
    done_here c.args.channel_max c.args.id.connection c.args.id.number c.args.depot.now c.publish.new.depot c.args.channel.now c.publish.new.channel c.args.method.now c.args.content.now c.publish.result _ c.performed-in-BasicPublish.ensures (sym c.is_closing.ensures ∙ c.if-is_closing.false) c.if-id-eq0.false (sym c.in_ok-check_number.ensures)
    (rw c.in-BasicPublish.is c.publish.ensures.commands)

pub returns-in-BasicGet-clause-answers : goal.returns-in-BasicGet-clause-answers
returns-in-BasicGet-clause-answers c =
    done_here c.args.channel_max c.args.id.connection c.args.id.number c.args.depot.now c.get.new.depot c.args.channel.now c.get.new.channel c.args.method.now c.args.content.now c.get.result _ c.performed-in-BasicGet.ensures (sym c.is_closing.ensures ∙ c.if-is_closing.false) c.if-id-eq0.false (sym c.in_ok-check_number.ensures)
    (rw c.in-BasicGet.is (c.get.ensures.commands c.args.content.now))

pub returns-in-BasicGet-clause-addressed : goal.returns-in-BasicGet-clause-addressed
returns-in-BasicGet-clause-addressed c = λ said. performed_addressed c.args.id.connection _ c.get.result c.performed-in-BasicGet.result c.performed-in-BasicGet.ensures (subst (λ (m : Method). HasSpelling c.args.depot.now m) c.in-BasicGet.is said) c.get.ensures.addressed

pub returns-in-BasicAck-clause-answers : goal.returns-in-BasicAck-clause-answers
returns-in-BasicAck-clause-answers c =
    done_here c.args.channel_max c.args.id.connection c.args.id.number c.args.depot.now c.ack.new.depot c.args.channel.now c.ack.new.channel c.args.method.now c.args.content.now c.ack.result _ c.performed-in-BasicAck.ensures (sym c.is_closing.ensures ∙ c.if-is_closing.false) c.if-id-eq0.false (sym c.in_ok-check_number.ensures)
    (rw c.in-BasicAck.is (c.ack.ensures.commands c.args.content.now))

pub returns-in-BasicReject-clause-answers : goal.returns-in-BasicReject-clause-answers
returns-in-BasicReject-clause-answers c =
    done_here c.args.channel_max c.args.id.connection c.args.id.number c.args.depot.now c.nack.new.depot c.args.channel.now c.nack.new.channel c.args.method.now c.args.content.now c.nack.result _ c.performed-in-BasicReject.ensures (sym c.is_closing.ensures ∙ c.if-is_closing.false) c.if-id-eq0.false (sym c.in_ok-check_number.ensures)
    (rw c.in-BasicReject.is (as_nack c.args.id.connection c.args.id.number c.args.depot.now c.nack.new.depot c.args.channel.now c.nack.new.channel c.in-BasicReject.settled c.nack_of.result c.args.content.now c.nack.result c.nack_of.ensures (c.nack.ensures.commands c.args.content.now)))

pub returns-in-BasicNack-clause-answers : goal.returns-in-BasicNack-clause-answers
returns-in-BasicNack-clause-answers c =
    done_here c.args.channel_max c.args.id.connection c.args.id.number c.args.depot.now c.nack-in-BasicNack.new.depot c.args.channel.now c.nack-in-BasicNack.new.channel c.args.method.now c.args.content.now c.nack-in-BasicNack.result _ c.performed-in-BasicNack.ensures (sym c.is_closing.ensures ∙ c.if-is_closing.false) c.if-id-eq0.false (sym c.in_ok-check_number.ensures)
    (rw c.in-BasicNack.is (c.nack-in-BasicNack.ensures.commands c.args.content.now))

pub returns-in-BasicRecover-clause-answers : goal.returns-in-BasicRecover-clause-answers
returns-in-BasicRecover-clause-answers c =
    done_here c.args.channel_max c.args.id.connection c.args.id.number c.args.depot.now c.recover.new.depot c.args.channel.now c.recover.new.channel c.args.method.now c.args.content.now c.recover.result _ c.performed-in-BasicRecover.ensures (sym c.is_closing.ensures ∙ c.if-is_closing.false) c.if-id-eq0.false (sym c.in_ok-check_number.ensures)
    (rw c.in-BasicRecover.is (c.recover.ensures.commands c.args.content.now))

pub returns-in-ConfirmSelect-clause-answers : goal.returns-in-ConfirmSelect-clause-answers
returns-in-ConfirmSelect-clause-answers c =
    done_here c.args.channel_max c.args.id.connection c.args.id.number c.args.depot.now c.args.depot.now c.args.channel.now c.select.new.channel c.args.method.now c.args.content.now c.select.result _ c.performed-in-ConfirmSelect.ensures (sym c.is_closing.ensures ∙ c.if-is_closing.false) c.if-id-eq0.false (sym c.in_ok-check_number.ensures)
    (rw c.in-ConfirmSelect.is (c.select.ensures.commands c.args.depot.now c.args.content.now))

pub returns-in-ConfirmSelect-clause-in_range : goal.returns-in-ConfirmSelect-clause-in_range
returns-in-ConfirmSelect-clause-in_range c = c.select.ensures.in_range c.args.depot.now.topology c.requires.placed

pub returns-in_default-clause-answers : goal.returns-in_default-clause-answers
returns-in_default-clause-answers c = λ old new conn same turns.
    let s = c.args.depot.now in
    let ch = seen s c.args.channel.now in
    open_here c.args.channel_max c.args.id.connection c.args.id.number s s c.args.channel.now c.args.channel.now c.args.method.now c.args.content.now (Err (Refused c.refusal_of_other.result)) (sym c.is_closing.ensures ∙ c.if-is_closing.false) c.if-id-eq0.false (sym c.in_ok-check_number.ensures)
    (λ b b' at. (c.refusal_of_other.ensures s.topology (state_of s b) ch, has_open c.refusal_of_other.result ch)) old new conn same turns
