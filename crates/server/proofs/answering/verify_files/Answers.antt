use Rattle.server.proofs.Names.{FailsToSetUp, unset, uncertified}
use Rattle.server.specs.Program.{wanting}
use Rattle.server.proofs.Kept.{refused_as, refused_uncertified}
use Rattle.server.proofs.answering.verify_files.Goals as goal

pub returns-in-Err-clause-answers : goal.returns-in-Err-clause-answers
returns-in-Err-clause-answers g c = unset (refused_as (FailsToSetUp _ _ _) _ _ _ _ c.report_of.ensures.file c.report_of.ensures.why c.in-Err.ensures.states)

pub returns-in-Err-certificates_of-clause-answers :
    goal.returns-in-Err-certificates_of-clause-answers
returns-in-Err-certificates_of-clause-answers g c =
    uncertified (record { topology = c.in-Ok.setup.topology; users = c.in-Ok.setup.users.items }) c.in-Ok.setup.guarantees.items c.in-Ok.ensures.states
    (refused_uncertified _ _ _ _ _ _ _ c.in-Ok.ensures.files c.report_of-in-Err-certificates_of.ensures.file c.report_of-in-Err-certificates_of.ensures.why c.in-Err-certificates_of.ensures.states)

pub returns-clause-answers : goal.returns-clause-answers
returns-clause-answers g c = rw c.from.ensures wanting
