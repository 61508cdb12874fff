use Rattle.session.proofs.Names.{◌≡◌, ◌≤◌, length, drop, after_sends}
use Rattle.session.proofs.sessions.phase_after.Given as goal

-- what stands from here on is counted in
abbrev pub invariant-loop-left : goal.invariant-loop-left
invariant-loop-left l = record {
  within : l.left ≤ length l.sends;
  counted : l.phase ≡ after_sends (drop l.left l.sends);
}

abbrev pub decreases-loop-left : goal.decreases-loop-left
decreases-loop-left l = l.left
