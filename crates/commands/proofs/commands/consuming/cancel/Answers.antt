use Rattle.commands.proofs.Names.{◌≡◌, ◌∙◌, ap, refl, sym, subst, Text, queue_names, without_consumer, IsPlaced, seen}
use Rattle.commands.proofs.Placing.{placed_cancelled}
use Rattle.commands.proofs.Consuming.{cancelled}
use Rattle.commands.proofs.commands.consuming.cancel.Goals as goal

pub returns-clause-commands : goal.returns-clause-commands
returns-clause-commands c = λ s content old new turns.
    let ch = c.args.channel.now in
    let left = c.cancel.new.self in
    let same : seen s left ≡ without_consumer (seen s ch) c.args.cancel.now.consumer_tag =
    c.cancel.ensures.seen (queue_names s.topology.queues) ∙ ap (λ (tag : Text). without_consumer (seen s ch) tag) c.as_bytes.ensures in
    (refl, cancelled c.args.id.connection c.args.id.number s ch left c.args.cancel.now c.in_ok-step.step.sends.items c.in_ok-step.step.notes.items old new c.in_ok-step.ensures.sends c.in_ok-step.ensures.notes same turns)

pub returns-clause-in_range : goal.returns-clause-in_range
returns-clause-in_range c = λ t placed. subst (IsPlaced t) (sym c.cancel.ensures.whole) (placed_cancelled t c.args.channel.now c.as_bytes.result.now c.cancel.new.self.given.consumer_room placed)
