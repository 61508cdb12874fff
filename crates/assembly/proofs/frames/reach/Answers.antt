use Rattle.assembly.proofs.Imports.{◌∙◌}
use Rattle.assembly.proofs.Places.{content_at-push}
use Rattle.assembly.proofs.frames.reach.Goals as goal

pub channels-preserved : goal.channels-preserved
channels-preserved c = rw c.in_ok-push.ensures.items (content_at-push _ ∙ c.channels.invariant)
