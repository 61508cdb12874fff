use Rattle.server.proofs.Names.{subst, Text, in_force, Known, FailsToPlay, unforced, unplayed, replays}
use Rattle.server.proofs.FilesKept.{kept_then}
use Rattle.server.proofs.Kept.{same_known, left_of_kept}
use Rattle.server.proofs.replaying.replay.Goals as goal

pub returns-in-Err-clause-answers : goal.returns-in-Err-clause-answers
returns-in-Err-clause-answers g c =
    record { file = _; why = _; fails = (unforced replays c.in-Err.ensures.force, left_of_kept _ _ _ _ c.in-Err.ensures.files); reported = c.refuse.ensures }

pub returns-in-Err-played_file-clause-answers : goal.returns-in-Err-played_file-clause-answers
returns-in-Err-played_file-clause-answers g c =
    let p = c.in-Err-played_file.ensures.plays in
    let same = same_known (g.F.Files.holds c.args.files.now) (g.F.Files.holds c.in_force.new.files) c.in-Ok.ensures.files in
    record {
      file = p.file;
      why = p.why;
      fails = (
        unplayed (in_force c.in-Ok.force.0 c.in-Ok.force.1.items) c.in-Ok.ensures.force (subst (λ (h : Text → Known). FailsToPlay h c.args.script.now p.file p.why) same p.fails),
        left_of_kept _ _ _ _ (kept_then _ _ _ c.in-Ok.ensures.files c.in-Err-played_file.ensures.files),
      );
      reported = p.reported;
    }
