use Rattle.reloading.proofs.Names.{◌<◌, length, arith}
use Rattle.reloading.proofs.Kept.{found_kept}
use Rattle.reloading.proofs.passed.like_at.Goals as goal

pub returns-in-Some-clause-kept : goal.returns-in-Some-clause-kept
returns-in-Some-clause-kept c =
    let long = c.told-passed in
    let slot = c.requires in
    let lt : c.args.slot < length c.args.passed.now = omega arith in
    found_kept c.args.passed.now c.args.slot _ c.in-Some.other lt c.in-Some.is
