use Rattle.broker.proofs.Names.{◌∙◌, ◌<◌, ◌≤◌, List, length, length-set, drop, set, sym, subst, arith, take_at, IsIn, AllDistinct, Pick, Queue, Rounds, Leavers, Loses, is_consumer, line_of, order, leavers_of, LeaveLines, LeavesIfNamed, NobodyFallsAsleep}
use Rattle.std.proofs.Common.{◌≡◌}
use Rattle.broker.proofs.Marked.{borrowed, marked_still}
use Rattle.broker.proofs.Removing.{lost_asleep, lost_up, nobody_left, none_there, one_left, several_left}
use Rattle.broker.proofs.rounds.ConsumerRounds.leave.Goals as goal

-- where nobody leaves
pub returns-in-Nobody-clause-left : goal.returns-in-Nobody-clause-left
returns-in-Nobody-clause-left c =
    let lines = c.self.inside.lines.items in
    let ok = c.self.inside.lines.ok.0 in
    let long : c.len-count.result ≡ length lines = omega (arith, ok) in
    let who = leavers_of c.args.id.connection c.args.id.number c.args.ends.now in
    subst (λ (r : Rounds). LeaveLines who r.lines lines) c.self.view_is
    (nobody_left c.args.id.connection c.args.id.number c.args.ends.now c.len-count.result c.find_gone.result c.self.inside.named c.find_gone.new.named c.find_gone.ensures lines long
    (λ place p i gone. c.requires.named place p (subst (λ (r : Rounds). IsIn p (order (line_of r.lines place))) c.self.view_is i) gone) c.in-Nobody.is)

-- one does
pub invariant_of-self-then-seat-count : goal.invariant_of-self-then-seat-count
invariant_of-self-then-seat-count c =
    let lines = c.self.inside.lines.items in
    let queue = c.in-One.seat.queue in
    let q : Pick = c.in-One.pick in
    let l : Queue Pick = c.leave.new.self in
    let ok = c.self.inside.lines.ok.0 in
    let lt : queue < length lines = omega (arith, ok) in
    let lost : Loses (λ p. is_consumer p q) (line_of lines queue).order l.order = subst (λ (x : Queue Pick). Loses (λ p. is_consumer p q) x.order l.order) (sym (borrowed lines queue c.index_mut.result.now lt c.index_mut.ensures.value)) c.leave.ensures.order in
    let long = length-set lines queue l in
    let room = c.self.invariant.1 in
    let size = c.find_gone.ensures.size in
    (marked_still lines queue l lt c.self.inside.awake (lost_up lines queue l lt q lost) c.self.invariant.0, omega (arith, long, room, size))

pub returns-then-seat-count-clause-left : goal.returns-then-seat-count-clause-left
returns-then-seat-count-clause-left c =
    let lines = c.self.inside.lines.items in
    let queue = c.in-One.seat.queue in
    let q : Pick = c.in-One.pick in
    let l : Queue Pick = c.leave.new.self in
    let ok = c.self.inside.lines.ok.0 in
    let long : c.len-count.result ≡ length lines = omega (arith, ok) in
    let lt : queue < length lines = omega (arith, ok) in
    let lost : Loses (λ p. is_consumer p q) (line_of lines queue).order l.order = subst (λ (x : Queue Pick). Loses (λ p. is_consumer p q) x.order l.order) (sym (borrowed lines queue c.index_mut.result.now lt c.index_mut.ensures.value)) c.leave.ensures.order in
    let who = leavers_of c.args.id.connection c.args.id.number c.args.ends.now in
    subst (λ (r : Rounds). LeaveLines who r.lines (set lines queue l)) c.self.view_is
    (one_left c.args.id.connection c.args.id.number c.args.ends.now c.len-count.result c.find_gone.result c.self.inside.named c.find_gone.new.named c.find_gone.ensures lines long
    (λ place p i gone. c.requires.named place p (subst (λ (r : Rounds). IsIn p (order (line_of r.lines place))) c.self.view_is i) gone) q c.in-One.seat c.in-One.is l lt
    (subst (λ (r : Rounds). AllDistinct (order (line_of r.lines queue))) (sym c.self.view_is) (c.requires.once queue)) lost)

pub returns-then-seat-count-clause-asleep : goal.returns-then-seat-count-clause-asleep
returns-then-seat-count-clause-asleep c =
    let lines = c.self.inside.lines.items in
    let queue = c.in-One.seat.queue in
    let q : Pick = c.in-One.pick in
    let l : Queue Pick = c.leave.new.self in
    let ok = c.self.inside.lines.ok.0 in
    let lt : queue < length lines = omega (arith, ok) in
    let lost : Loses (λ p. is_consumer p q) (line_of lines queue).order l.order = subst (λ (x : Queue Pick). Loses (λ p. is_consumer p q) x.order l.order) (sym (borrowed lines queue c.index_mut.result.now lt c.index_mut.ensures.value)) c.leave.ensures.order in
    subst (λ (r : Rounds). NobodyFallsAsleep r.lines (set lines queue l)) c.self.view_is (lost_asleep lines queue l lt q lost)

pub returns-else-seat-count-clause-left : goal.returns-else-seat-count-clause-left
returns-else-seat-count-clause-left c =
    let lines = c.self.inside.lines.items in
    let ok = c.self.inside.lines.ok.0 in
    let long : c.len-count.result ≡ length lines = omega (arith, ok) in
    let past : length lines ≤ c.in-One.seat.queue = omega (arith, ok) in
    let who = leavers_of c.args.id.connection c.args.id.number c.args.ends.now in
    subst (λ (r : Rounds). LeaveLines who r.lines lines) c.self.view_is
    (none_there c.args.id.connection c.args.id.number c.args.ends.now c.len-count.result c.find_gone.result c.self.inside.named c.find_gone.new.named c.find_gone.ensures lines long
    (λ place p i gone. c.requires.named place p (subst (λ (r : Rounds). IsIn p (order (line_of r.lines place))) c.self.view_is i) gone) c.in-One.pick c.in-One.seat c.in-One.is past)

-- several do
pub returns-in-Several-clause-left : goal.returns-in-Several-clause-left
returns-in-Several-clause-left c =
    let lines = c.self.inside.lines.items in
    let new : List (Queue Pick) = c.sweep_named.new.lines in
    let ok = c.self.inside.lines.ok.0 in
    let long : c.len-count.result ≡ length lines = omega (arith, ok) in
    let who = leavers_of c.args.id.connection c.args.id.number c.args.ends.now in
    let after = c.find_gone.new.named in
    let whole = take_at new (drop (length new) lines) c.self.inside.lines.len (c.sweep_named.auto.lines ∙ c.deref_mut.ensures.len) in
    subst (λ (ls : List (Queue Pick)). LeaveLines who c.args.self.now.lines ls) (sym whole)
    (subst (λ (r : Rounds). LeaveLines who r.lines new) c.self.view_is
    (several_left c.args.id.connection c.args.id.number c.args.ends.now c.len-count.result c.find_gone.result c.self.inside.named after c.find_gone.ensures lines long
    (λ place p i gone. c.requires.named place p (subst (λ (r : Rounds). IsIn p (order (line_of r.lines place))) c.self.view_is i) gone) c.in-Several.is new
    (λ place.
    subst (λ (ls : List (Queue Pick)). LeavesIfNamed who after ls new place) c.deref_mut.ensures.value
    (subst (λ (w : Leavers). LeavesIfNamed w after c.deref_mut.result.now new place) c.who_leaves-who.ensures (c.sweep_named.ensures.left place)))))

pub returns-in-Several-clause-asleep : goal.returns-in-Several-clause-asleep
returns-in-Several-clause-asleep c =
    let lines = c.self.inside.lines.items in
    let new : List (Queue Pick) = c.sweep_named.new.lines in
    let whole = take_at new (drop (length new) lines) c.self.inside.lines.len (c.sweep_named.auto.lines ∙ c.deref_mut.ensures.len) in
    subst (λ (ls : List (Queue Pick)). NobodyFallsAsleep c.args.self.now.lines ls) (sym whole)
    (subst (λ (r : Rounds). NobodyFallsAsleep r.lines new) c.self.view_is (subst (λ (ls : List (Queue Pick)). NobodyFallsAsleep ls new) c.deref_mut.ensures.value c.sweep_named.ensures.asleep))
