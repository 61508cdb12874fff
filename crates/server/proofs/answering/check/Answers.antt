use Rattle.server.proofs.Names.{unset, FailsToSetUp}
use Rattle.server.proofs.Kept.{refused_as, left_of_kept, wants, writes_then, unfiled, drafted}
use Rattle.server.proofs.answering.check.Goals as goal

pub returns-in-Err : goal.returns-in-Err
returns-in-Err g c = (unset (refused_as (FailsToSetUp _ _ _) _ _ _ _ c.report_of.ensures.file c.report_of.ensures.why c.in-Err.ensures.states), left_of_kept _ _ _ _ c.in-Err.ensures.files)

pub returns-in-Err-judge : goal.returns-in-Err-judge
returns-in-Err-judge g c = wants _ _ _ _ _ c.from.ensures c.in-Ok.ensures.files

pub returns-in-Ok-write_out : goal.returns-in-Ok-write_out
returns-in-Ok-write_out g c =
    let found = c.in-Ok-judge.ensures in
    rw (c.from-in-Ok-write_out.ensures.0, c.from-in-Ok-write_out.ensures.1)
    (record {
      stated = record { topology = c.in-Ok.setup.topology; users = c.in-Ok.setup.users.items };
      promised = c.in-Ok.setup.guarantees.items;
      set_up = c.in-Ok.ensures.states;
      verdicts = found.verdicts;
      judged = (rw c.as_slice.ensures.value at found.judged);
      written = writes_then _ _ _ _ _ c.in-Ok.ensures.files (c.in-Ok-write_out.ensures found.verdicts found.judged.status_is (drafted _ _ _ _ c.draft_for-draft.ensures found.adds));
    })

pub returns : goal.returns
returns g c =
    let found = c.in-Ok-judge.ensures in
    let failed = c.in-Err-write_out.ensures found.verdicts found.judged.status_is (drafted _ _ _ _ c.draft_for-draft.ensures found.adds) in
    unfiled _ _ _ _ _ _ _ _ _ _ (record { topology = c.in-Ok.setup.topology; users = c.in-Ok.setup.users.items }) c.in-Ok.setup.guarantees.items found.verdicts c.in-Ok.ensures.states
    (rw c.as_slice.ensures.value at found.judged) failed.0 failed.1 c.in-Ok.ensures.files failed.2
