use Rattle.server.proofs.Names.{[], inl, subst, Text, Known, AreSetUp, FailsToReload, unread_script, unloaded, no_run}
use Rattle.server.specs.declared.refusals.CommandRefusal.TheVariants.{Memory}
use Rattle.server.proofs.Kept.{same_known}
use Rattle.server.proofs.Outcomes.{untouched}
use Rattle.server.proofs.replaying.played_file.Goals as goal

pub returns-in-Err-clause-plays : goal.returns-in-Err-clause-plays
returns-in-Err-clause-plays g c = record { file = c.args.script.now; why = c.in-Err.why; fails = unread_script c.in-Err.why c.in-Err.ensures.said; reported = c.refuse.ensures }

pub returns-in-Err-arrivals_of-clause-plays : goal.returns-in-Err-arrivals_of-clause-plays
returns-in-Err-arrivals_of-clause-plays g c =
    let report = c.in-Err-arrivals_of.report in
    let same = same_known (g.F.Files.holds c.args.files.now) (g.F.Files.holds c.script_of.new.files) c.in-Ok.ensures.files in
    record {
      file = report.file.now;
      why = report.why;
      fails = unloaded c.in-Ok.said.items c.in-Ok.ensures.said
          (subst (λ (h : Text → Known). FailsToReload h c.in-Ok.said.items report.file.now report.why) same (rw c.as_slice.ensures.value at c.in-Err-arrivals_of.ensures.set_up));
      reported = c.refuse-in-Err-arrivals_of.ensures;
    }

pub returns-in-Ok-played-clause-plays : goal.returns-in-Ok-played-clause-plays
returns-in-Ok-played-clause-plays g c =
    let same = same_known (g.F.Files.holds c.args.files.now) (g.F.Files.holds c.script_of.new.files) c.in-Ok.ensures.files in (
      record {
        said = c.in-Ok.said.items;
        read = c.in-Ok.ensures.said;
        arrivals = c.in-Ok-arrivals_of.arrivals.items;
        set_up = subst (λ (h : Text → Known). AreSetUp h c.in-Ok.said.items c.in-Ok-arrivals_of.arrivals.items) same (rw c.as_slice.ensures.value at c.in-Ok-arrivals_of.ensures.set_up);
        prints = c.in-Ok-played.ensures;
      },
      untouched _,
    )

pub returns-in-Err-played-clause-plays : goal.returns-in-Err-played-clause-plays
returns-in-Err-played-clause-plays g c = record { file = []; why = Memory; fails = no_run; reported = inl c.refuse_memory.ensures }
