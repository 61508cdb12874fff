use Rattle.commands.proofs.Names.{◌≡◌, sym, subst, Result, Ok, Stop, AnswersOn, IsNotPerformed, Done, Performed, Acted, ReportsEnds}
use Rattle.std.proofs.Common.{Some}
use Rattle.commands.proofs.Remaining.{performed_reports}
use Rattle.commands.proofs.Commanding.{left_can, left_counted, left_done, left_own}
use Rattle.commands.proofs.cores.Core.command.Goals as goal

pub finish-requires-clause-can : goal.finish-requires-clause-can
finish-requires-clause-can g c =
    left_can c.args.self.now c.decide.new.self c.args.id.connection c.args.id.number c.args.method.now c.args.content.now c.in-Some-Ok-Left.left c.in-Some-Ok-Left.field-0 (cc (c.in-Some-Ok-Left.field-0-is, c.in-Some-Ok-Left.field-0-0-is)) c.in-Some-Ok-Left.ensures.kept c.in-Some-Ok-Left.ensures.answers

pub returns-in-Some-Ok-Left-clause-ok : goal.returns-in-Some-Ok-Left-clause-ok
returns-in-Some-Ok-Left-clause-ok g c =
    left_done c.args.self.now c.decide.new.self c.args.id.connection c.args.id.number c.args.method.now c.args.content.now c.in-Some-Ok-Left.left c.in-Some-Ok-Left.field-0 (cc (c.in-Some-Ok-Left.field-0-is, c.in-Some-Ok-Left.field-0-0-is)) c.in-Some-Ok-Left.ensures.kept c.in-Some-Ok-Left.ensures.answers c.finish.new.self c.finish.result c.finish.ensures.ok

pub returns-in-Some-Ok-Left-clause-addressed : goal.returns-in-Some-Ok-Left-clause-addressed
returns-in-Some-Ok-Left-clause-addressed g c =
    left_own c.args.self.now c.decide.new.self c.args.id.connection c.args.id.number c.args.method.now c.args.content.now c.in-Some-Ok-Left.left c.in-Some-Ok-Left.field-0 (cc (c.in-Some-Ok-Left.field-0-is, c.in-Some-Ok-Left.field-0-0-is)) c.in-Some-Ok-Left.ensures.kept c.in-Some-Ok-Left.ensures.answers c.finish.result c.finish.ensures.addressed

-- what it ends is told
pub returns-in-Some-Ok-Performed-clause-ended : goal.returns-in-Some-Ok-Performed-clause-ended
returns-in-Some-Ok-Performed-clause-ended g c =
    let is : c.in-Some-Ok-Performed.field-0 ≡ Ok (Performed c.in-Some-Ok-Performed.step) = cc (c.in-Some-Ok-Performed.field-0-is, c.in-Some-Ok-Performed.field-0-0-is) in
    let answers = subst (λ (r : Result Done Stop). AnswersOn c.args.self.now c.args.id.connection c.args.id.number c.args.method.now c.args.content.now (Some r) c.decide.new.self) is c.in-Some-Ok-Performed.ensures.answers in
    subst (λ (a : Acted). ReportsEnds c.args.id.connection c.args.id.number a.ends c.args.self.now c.decide.new.self) (sym c.ending.ensures)
    (performed_reports c.args.self.now c.decide.new.self c.args.id.connection c.args.id.number c.args.method.now c.args.content.now c.in-Some-Ok-Performed.step c.cancelled-cancelled.result
    (λ opens. subst (λ (r : Result Done Stop). IsNotPerformed r) is (c.in-Some-Ok-Performed.ensures.elsewhere opens)) c.cancelled-cancelled.ensures.some c.cancelled-cancelled.ensures.none answers)

-- nothing has changed of what is counted
pub finish-requires-clause-counted : goal.finish-requires-clause-counted
finish-requires-clause-counted g c =
    left_counted c.args.self.now c.decide.new.self c.args.id.connection c.args.id.number c.args.method.now c.args.content.now c.in-Some-Ok-Left.left c.in-Some-Ok-Left.field-0 (cc (c.in-Some-Ok-Left.field-0-is, c.in-Some-Ok-Left.field-0-0-is)) c.in-Some-Ok-Left.ensures.kept c.in-Some-Ok-Left.ensures.answers
    (g.N.Counts.is_count c.args.counts.now) c.requires.counted
