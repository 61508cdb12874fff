use Rattle.broker.proofs.Names.{◌∙◌, List, Member, IsIn, asleep_member, get_or, ap, sym, subst, same_default, get_or-set_same, filter, Queue, Pick, order, remains, IsAwake, IsAsleep}
use Rattle.broker.proofs.Marked.{no_line, marked_moved}
use Rattle.broker.proofs.Members.{line_swept, none_sleeps}
use Rattle.broker.proofs.rounds.queue_lines.sweep_at.Goals as goal

pub returns-clause-here : goal.returns-clause-here
returns-clause-here c =
    ap order (get_or-set_same c.args.lines.now c.args.queue c.sweep.new.self no_line c.requires.within)
    ∙ line_swept (remains c.args.who) (get_or c.args.lines.now c.args.queue c.index-lines-queue.result).order c.sweep.new.self.order c.sweep.ensures.order
    ∙ ap (λ (l : Queue Pick). filter (remains c.args.who) (order l)) (sym (same_default c.args.lines.now c.args.queue no_line c.index-lines-queue.result c.requires.within))

pub returns-clause-awake : goal.returns-clause-awake
returns-clause-awake c = λ p i.
    none_sleeps (filter (remains c.args.who) (order (get_or c.args.lines.now c.args.queue c.index-lines-queue.result))) p
    (subst (λ (ms : List (Member Pick)). IsIn (asleep_member p) ms) c.sweep.ensures.order
    (subst (λ (l : Queue Pick). IsAsleep l p) (get_or-set_same c.args.lines.now c.args.queue c.sweep.new.self no_line c.requires.within) i))

pub returns-clause-marked : goal.returns-clause-marked
returns-clause-marked c =
    marked_moved c.args.lines.now c.args.queue c.sweep.new.self c.requires.within c.args.awake.now c.mark_line.new.awake c.mark_line.ensures.len c.mark_line.ensures.stay
    (λ p up. c.mark_line.ensures.here p (subst (λ (l : Queue Pick). IsAwake l p) (sym (get_or-set_same c.args.lines.now c.args.queue c.sweep.new.self c.index-lines-queue-2.result c.requires.within)) up))
    c.requires.marked
