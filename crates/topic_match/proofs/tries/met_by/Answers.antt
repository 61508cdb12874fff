use Rattle.topic_match.proofs.Names.{List, subst, Met, Begins, beginning_at, AreAdded}
use Rattle.topic_match.proofs.Law.{met_all, root_counts}
use Rattle.topic_match.proofs.tries.met_by.Goals as goal

pub walk-requires-clause-counted : goal.walk-requires-clause-counted
walk-requires-clause-counted c = root_counts c.args.patterns.now c.args.links.now.nodes.now c.args.links.now.slots.now c.args.words.now c.in_ok-first_counts.field-0.items c.requires.linked c.in_ok-first_counts.ensures

pub returns : goal.returns
returns c = λ few.
    met_all c.args.patterns.now c.args.links.now.nodes.now c.args.links.now.slots.now c.args.words.now c.walk.new.met.items c.requires.linked
    (subst (λ (z : List Met). AreAdded c.args.patterns.now c.args.links.now.nodes.now c.args.words.now (Begins (beginning_at c.args.patterns.now c.args.links.now.nodes.now 0)) z c.walk.new.met.items) c.new-met.ensures.items (c.in_ok-walk.ensures.added few))
