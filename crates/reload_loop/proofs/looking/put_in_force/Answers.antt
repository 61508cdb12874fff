use Rattle.reload_loop.proofs.Imports.{OutputStream, change, IsFaultReported}
use Rattle.runs.specs.declared.faults.ReloadFault.TheVariants.{Memory}
use Rattle.reload_loop.proofs.Outcomes.{done_look, unput_look}
use Rattle.reload_loop.proofs.Telling.{tells}
use Rattle.reload_loop.proofs.looking.put_in_force.Goals as goal

pub returns-in-Ok-clause-looks : goal.returns-in-Ok-clause-looks
returns-in-Ok-clause-looks g c = λ holds names told from offered carried.
    rw c.requires.none (done_look holds names _ _ told _ _ _ _ c.args.setup from offered c.in-Ok.ensures.ok)

pub returns-in-Err-clause-looks : goal.returns-in-Err-clause-looks
returns-in-Err-clause-looks g c = λ holds names told from offered carried.
    let err : OutputStream = change (g.E.Write.contents c.args.err.now) (g.E.Write.contents c.tell_fault.new.err) in
    unput_look holds names _ _ told _ _ _ _ c.args.setup _ _ from offered c.in-Err.ensures.wants c.in-Err.ensures.err
    (rw c.last_line.ensures (tells told c.args.now c.args.read c.args.told c.recent-last.result err (IsFaultReported err Memory) _ carried
    c.recent-last.ensures.some c.recent-last.ensures.none c.tell_fault.ensures.silent c.tell_fault.ensures.line))
