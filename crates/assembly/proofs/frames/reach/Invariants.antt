use Rattle.assembly.proofs.Imports.{◌≡◌, ◌-◌, ◌+◌, vec_len, content_at}
use Rattle.assembly.proofs.frames.reach.Given as goal

abbrev pub invariant-channels : goal.invariant-channels
invariant-channels l = content_at l.contents.items ≡ content_at l.fn.contents.items

abbrev pub decreases-channels : goal.decreases-channels
decreases-channels l = l.channel + 1 - vec_len l.contents
