use Rattle.reload_loop.proofs.Imports.{Option, refl, sym, subst, OutputStream, change, Found, IsFound, IsFaultReported, Carries, Told, unchanged}
use Rattle.server.specs.Program.{WritesLine, refusal_line}
use Rattle.reload_loop.proofs.Outcomes.{judged_look, refused_look, untouched}
use Rattle.reload_loop.proofs.Telling.{tells}
use Rattle.reload_loop.proofs.looking.act.Goals as goal

pub returns-in-Nothing-clause-looks : goal.returns-in-Nothing-clause-looks
returns-in-Nothing-clause-looks g c = λ holds names told is carries.
    rw c.replace.ensures.after (unchanged (subst (λ (f : Found). IsFound holds names c.args.kept.now f) (sym c.in-Nothing.ensures.value) is) (untouched (g.E.Write.contents c.args.err.now)))

pub returns-in-Wanting-clause-looks : goal.returns-in-Wanting-clause-looks
returns-in-Wanting-clause-looks g c = λ holds names told is carries.
    absurd (subst (λ (f : Found). IsFound holds names c.args.kept.now f) (sym c.in-Wanting.ensures.value) is)

pub returns-in-Refused-clause-looks : goal.returns-in-Refused-clause-looks
returns-in-Refused-clause-looks g c = λ holds names told is carries.
    let err : OutputStream = change (g.E.Write.contents c.args.err.now) (g.E.Write.contents c.tell_refusal.new.err) in
    let line = WritesLine err (refusal_line c.in-Refused.report.file.now c.in-Refused.report.why) in
    refused_look holds names _ _ told _ c.in-Refused.read _ c.in-Refused.report c.in-Refused.told _ _ (subst (λ (f : Found). IsFound holds names c.args.kept.now f) (sym c.in-Refused.ensures.value) is)
    (rw c.last_line.ensures (tells told c.args.now c.in-Refused.read c.in-Refused.told c.recent-last.result err line _ (subst (λ (f : Found). Carries told f) (sym c.in-Refused.ensures.value) carries)
    c.recent-last.ensures.some c.recent-last.ensures.none c.tell_refusal.ensures.silent c.tell_refusal.ensures.line))

pub put_in_force-requires-clause-nothing : goal.put_in_force-requires-clause-nothing
put_in_force-requires-clause-nothing g c = (rw c.machine.ensures at c.in-Ok.ensures)

pub returns-in-Ok-clause-looks : goal.returns-in-Ok-clause-looks
returns-in-Ok-clause-looks g c = λ holds names told is carries.
    let f = subst (λ (f : Found). IsFound holds names c.args.kept.now f) (sym c.in-Admitted.ensures.value) is in
    c.put_in_force.ensures.looks holds names told f.0 f.1 (subst (λ (f : Found). Carries told f) (sym c.in-Admitted.ensures.value) carries)

pub returns-clause-looks : goal.returns-clause-looks
returns-clause-looks g c = λ holds names told is carries.
    let f = subst (λ (f : Found). IsFound holds names c.args.kept.now f) (sym c.in-Admitted.ensures.value) is in
    let err : OutputStream = change (g.E.Write.contents c.args.err.now) (g.E.Write.contents c.tell_fault.new.err) in
    judged_look holds names _ _ told _ c.in-Admitted.read _ c.in-Admitted.setup c.in-Err.fault _ _ f.0 f.1 (rw c.machine.ensures at c.in-Err.ensures)
    (rw c.last_line-in-Err.ensures (tells told c.args.now c.in-Admitted.read c.in-Admitted.told c.recent-last-in-Err.result err (IsFaultReported err c.in-Err.fault) _ (subst (λ (f : Found). Carries told f) (sym c.in-Admitted.ensures.value) carries)
    c.recent-last-in-Err.ensures.some c.recent-last-in-Err.ensures.none c.tell_fault.ensures.silent c.tell_fault.ensures.line))

pub returns-in-Ok-clause-found : goal.returns-in-Ok-clause-found
returns-in-Ok-clause-found g c = λ names was. c.put_in_force.ensures.found names
