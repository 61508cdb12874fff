use Rattle.session.proofs.Names.{◌≡◌, drop, ◌&&◌}
use Rattle.std.specs.Str.{bytes_eq}
use Rattle.session.proofs.hashes.are_same.Given as goal

-- all are the same where those so far are, and those that are left
abbrev pub invariant-loop-place : goal.invariant-loop-place
invariant-loop-place l = (l.same && bytes_eq (drop l.place l.left) (drop l.place l.right)) ≡ bytes_eq l.left l.right
