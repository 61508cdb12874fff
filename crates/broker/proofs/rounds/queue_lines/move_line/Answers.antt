use Rattle.broker.proofs.Names.{◌∙◌, ap, subst, get_or-set_same, Queue, Pick, IsAwake}
use Rattle.broker.proofs.Marked.{no_line, marked_moved}
use Rattle.broker.proofs.Moving.{either_set}
use Rattle.broker.proofs.rounds.queue_lines.move_line.Goals as goal

pub returns-then-place-lines-clause-moved : goal.returns-then-place-lines-clause-moved
returns-then-place-lines-clause-moved c = λ within.
    ap (λ (l : Queue Pick). l.order) (get_or-set_same c.args.lines.now c.args.place c.swap.new.x no_line c.if-place-lines.true ∙ c.swap.ensures.x_after)

pub returns-then-place-lines-clause-marked : goal.returns-then-place-lines-clause-marked
returns-then-place-lines-clause-marked c =
    marked_moved c.args.lines.now c.args.place c.swap.new.x c.if-place-lines.true c.args.awake.now c.mark_line.new.awake c.mark_line.ensures.len c.mark_line.ensures.stay
    (λ p up. c.mark_line.ensures.here p (subst (λ (l : Queue Pick). IsAwake l p) c.swap.ensures.x_after up)) c.requires

pub returns-then-place-lines-clause-came : goal.returns-then-place-lines-clause-came
returns-then-place-lines-clause-came c = either_set c.args.lines.now c.args.place c.swap.new.x c.args.line.now c.if-place-lines.true (ap (λ (l : Queue Pick). l.order) c.swap.ensures.x_after)
