use Rattle.channels.proofs.Settlement.{settle_all, settle_many, settle_one}
use Rattle.channels.proofs.tags.run_of.Goals as goal

pub returns-then-span-eq0-clause-run : goal.returns-then-span-eq0-clause-run
returns-then-span-eq0-clause-run c = (settle_all c.args.given.now c.args.span.tag c.args.span.multiple c.if-span-eq0.true c.if-span.true).0

pub returns-then-span-eq0-clause-rest : goal.returns-then-span-eq0-clause-rest
returns-then-span-eq0-clause-rest c = (settle_all c.args.given.now c.args.span.tag c.args.span.multiple c.if-span-eq0.true c.if-span.true).1

pub returns-then-span-2-clause-run : goal.returns-then-span-2-clause-run
returns-then-span-2-clause-run c = (settle_many _ _ _ _ c.if-span-2.true c.requires c.in-Some.ensures.there).0

pub returns-then-span-2-clause-rest : goal.returns-then-span-2-clause-rest
returns-then-span-2-clause-rest c = (settle_many _ _ _ _ c.if-span-2.true c.requires c.in-Some.ensures.there).1

pub returns-else-span-2-clause-run : goal.returns-else-span-2-clause-run
returns-else-span-2-clause-run c = (settle_one _ _ _ _ c.if-span-2.false c.requires c.in-Some.ensures.there).0

pub returns-else-span-2-clause-rest : goal.returns-else-span-2-clause-rest
returns-else-span-2-clause-rest c = (settle_one _ _ _ _ c.if-span-2.false c.requires c.in-Some.ensures.there).1
