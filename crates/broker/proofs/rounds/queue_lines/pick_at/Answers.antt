use Rattle.broker.proofs.Names.{get_or, set, refl, same_default}
use Rattle.broker.proofs.Marked.{no_line, marked_less, marked_moved}
use Rattle.broker.proofs.Orders.{picked_kept, picked_from, rested_kept, rested_same, rested_none, rested_down}
use Rattle.broker.proofs.rounds.queue_lines.pick_at.Goals as goal

pub returns-in-Some-clause-kept : goal.returns-in-Some-clause-kept
returns-in-Some-clause-kept c =
    picked_kept c.args.core.now c.args.lines.now c.args.queue (get_or c.args.lines.now c.args.queue c.index-lines-queue.result) c.pick.new.line c.requires.within c.requires.kept
    (same_default c.args.lines.now c.args.queue no_line c.index-lines-queue.result c.requires.within) c.in-Some.pick c.in-Some.ensures.picks

pub returns-in-Some-clause-marked : goal.returns-in-Some-clause-marked
returns-in-Some-clause-marked c =
    marked_moved c.args.lines.now c.args.queue c.pick.new.line c.requires.within c.args.awake.now c.args.awake.now refl (λ k up. up) (λ p up. c.requires.here) c.requires.marked

pub returns-in-Some-clause-some : goal.returns-in-Some-clause-some
returns-in-Some-clause-some c = c.in-Some.ensures.picks.able c.requires.ready

pub returns-in-Some-clause-picked : goal.returns-in-Some-clause-picked
returns-in-Some-clause-picked c =
    picked_from c.args.core.now c.args.lines.now c.args.queue (get_or c.args.lines.now c.args.queue c.index-lines-queue.result) c.pick.new.line c.requires.within c.requires.kept
    (same_default c.args.lines.now c.args.queue no_line c.index-lines-queue.result c.requires.within) c.in-Some.pick c.in-Some.ensures.picks

-- where none is told nobody is awake there
pub returns-in-None-clause-kept : goal.returns-in-None-clause-kept
returns-in-None-clause-kept c =
    rested_kept c.args.core.now c.args.lines.now c.args.queue (get_or c.args.lines.now c.args.queue c.index-lines-queue.result) c.pick.new.line c.requires.within c.requires.kept
    (same_default c.args.lines.now c.args.queue no_line c.index-lines-queue.result c.requires.within) c.in-None.ensures.picks.0 c.in-None.ensures.picks.1

pub returns-in-None-clause-marked : goal.returns-in-None-clause-marked
returns-in-None-clause-marked c =
    marked_less (set c.args.lines.now c.args.queue c.pick.new.line) c.args.awake.now c.clear.new.self c.args.queue c.clear.ensures.size c.clear.ensures.cleared
    (rested_down c.args.core.now c.args.lines.now c.args.queue (get_or c.args.lines.now c.args.queue c.index-lines-queue.result) c.pick.new.line c.requires.within c.requires.kept
    (same_default c.args.lines.now c.args.queue no_line c.index-lines-queue.result c.requires.within) c.in-None.ensures.picks.0 c.in-None.ensures.picks.1)
    (marked_moved c.args.lines.now c.args.queue c.pick.new.line c.requires.within c.args.awake.now c.args.awake.now refl (λ k up. up) (λ p up. c.requires.here) c.requires.marked)

pub returns-in-None-clause-none : goal.returns-in-None-clause-none
returns-in-None-clause-none c = λ e.
    rested_none c.args.core.now c.args.lines.now c.args.queue (get_or c.args.lines.now c.args.queue c.index-lines-queue.result) c.pick.new.line c.requires.within c.requires.kept
    (same_default c.args.lines.now c.args.queue no_line c.index-lines-queue.result c.requires.within) c.in-None.ensures.picks.0 c.in-None.ensures.picks.1

pub returns-in-None-clause-same : goal.returns-in-None-clause-same
returns-in-None-clause-same c = λ e.
    rested_same c.args.core.now c.args.lines.now c.args.queue (get_or c.args.lines.now c.args.queue c.index-lines-queue.result) c.pick.new.line c.requires.within c.requires.kept
    (same_default c.args.lines.now c.args.queue no_line c.index-lines-queue.result c.requires.within) c.in-None.ensures.picks.0 c.in-None.ensures.picks.1
