use Rattle.server.proofs.Names.{FailsToSetUp, not_set_up, not_certified, not_admitted}
use Rattle.server.proofs.FilesKept.{certifies_kept, few_promised}
use Rattle.server.proofs.Kept.{refused_as, refused_uncertified}
use Rattle.server.proofs.replaying.in_force.Goals as goal

pub returns-in-Err-clause-force : goal.returns-in-Err-clause-force
returns-in-Err-clause-force g c = not_set_up (refused_as (FailsToSetUp _ _ _) _ _ _ _ c.report_of.ensures.file c.report_of.ensures.why c.in-Err.ensures.states)

pub returns-in-Err-certificates_of-clause-force : goal.returns-in-Err-certificates_of-clause-force
returns-in-Err-certificates_of-clause-force g c =
    not_certified (record { topology = c.in-Ok.setup.topology; users = c.in-Ok.setup.users.items }) c.in-Ok.setup.guarantees.items c.in-Ok.ensures.states
    (refused_uncertified _ _ _ _ _ _ _ c.in-Ok.ensures.files c.report_of-in-Err-certificates_of.ensures.file c.report_of-in-Err-certificates_of.ensures.why c.in-Err-certificates_of.ensures.states)

pub admitted-requires : goal.admitted-requires
admitted-requires g c = few_promised _ _ _ _ c.in-Ok.ensures.states.promises

pub returns-clause-force : goal.returns-clause-force
returns-clause-force g c =
    not_admitted (record { topology = c.in-Ok.setup.topology; users = c.in-Ok.setup.users.items }) c.in-Ok.setup.guarantees.items c.in-Ok-certificates_of.certificates.items c.in-Err-admitted.why
    c.in-Ok.ensures.states (certifies_kept _ _ _ _ c.in-Ok.ensures.files c.in-Ok-certificates_of.ensures.states) (rw c.as_slice.ensures.value at c.in-Err-admitted.ensures)
