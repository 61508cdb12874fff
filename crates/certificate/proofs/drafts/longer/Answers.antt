use Rattle.certificate.proofs.Names.{arith}
use Rattle.certificate.proofs.Drafting.{begun_with, grown_past, fails_with}
use Rattle.certificate.proofs.drafts.longer.Goals as goal

pub returns-in-Ok : goal.returns-in-Ok
returns-in-Ok c = λ cs b. begun_with cs c.args.certificate.now c.args.begun.items c.put_listed.new.text.items b c.in-Ok.ensures (omega arith)

pub returns-in-Ok-2 : goal.returns-in-Ok-2
returns-in-Ok-2 c = λ cs b. grown_past cs c.args.certificate.now c.args.begun.items c.put_listed.new.text.items b c.in-Ok-2.ensures (omega arith)

pub returns-in-Err : goal.returns-in-Err
returns-in-Err c = λ cs b. fails_with cs c.args.certificate.now c.args.begun.items c.in-Err.why b c.in-Err.ensures
