use Rattle.reloading.proofs.Kept.{kept_put}
use Rattle.reloading.proofs.passed.keep.Goals as goal

pub returns : goal.returns
returns c m k = kept_put c.args.passed.now c.args.slot c.args.message m k
