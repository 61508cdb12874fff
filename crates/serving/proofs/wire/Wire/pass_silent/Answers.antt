use Rattle.serving.proofs.Names.{◌+◌, ◌-◌, ◌∙◌, None, drop, arith, get_or-drop}
use Rattle.serving.proofs.Waiting.{free_wait}
use Rattle.serving.proofs.wire.Wire.pass_silent.Goals as goal

pub returns-clause-traffic : goal.returns-clause-traffic
returns-clause-traffic g c =
    let ps = c.args.peers.now.slots in
    let from = c.args.from in
    free_wait (c.first_taken.result - from) (drop from ps) _ (λ i lt. get_or-drop from ps i None ∙ c.first_taken.ensures.free (from + i) (omega arith) (omega (arith, lt)))
