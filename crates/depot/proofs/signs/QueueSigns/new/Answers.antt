use Rattle.depot.proofs.Signing.{signed_new}
use Rattle.depot.proofs.signs.QueueSigns.new.Goals as goal

pub returns : goal.returns
returns c = signed_new c.args.queues _ c.in_ok-ready.ensures.bits c.in_ok-ready.ensures.room
