use Rattle.commands.proofs.Names.{subst, sym, settled_by, IsSpan, ReturnsSpan}
use Rattle.commands.proofs.Settlements.{accepted, refused}
use Rattle.commands.proofs.refusals.settlements.check_settling.Goals as goal

pub returns-in-Some-clause-span : goal.returns-in-Some-clause-span
returns-in-Some-clause-span c = subst (ReturnsSpan c.args.tag c.args.multiple c.args.channel.now.given.outstanding) c.in-Some.is c.span.ensures

pub returns-in-Some-clause-refusal : goal.returns-in-Some-clause-refusal
returns-in-Some-clause-refusal c = λ names.
    let is : IsSpan c.in-Some.span c.args.tag c.args.multiple c.args.channel.now.given.outstanding = subst (ReturnsSpan c.args.tag c.args.multiple c.args.channel.now.given.outstanding) c.in-Some.is c.span.ensures in
    sym (accepted names c.args.channel.now c.args.tag c.args.multiple (settled_by c.in-Some.span c.args.channel.now.given.outstanding) is.settles)

pub returns-in-None-clause-refusal : goal.returns-in-None-clause-refusal
returns-in-None-clause-refusal c = λ names.
    sym (refused names c.args.channel.now c.args.tag c.args.multiple (subst (ReturnsSpan c.args.tag c.args.multiple c.args.channel.now.given.outstanding) c.in-None.is c.span.ensures))
