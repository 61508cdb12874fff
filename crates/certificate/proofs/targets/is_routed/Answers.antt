use Rattle.certificate.proofs.Routed.{target_routed, routed_target, routed_there}
use Rattle.certificate.proofs.targets.is_routed.Goals as goal

pub returns-in-Some : goal.returns-in-Some
returns-in-Some c =
    let t = c.args.topology.now in (
      λ e. target_routed t c.args.exchange.now c.args.key.now c.as_slice.result.now c.in-Some.index c.args.queue.now (rw c.as_slice.ensures.value c.in_ok-targets.ensures) c.in-Some.ensures.named (c.has_index.ensures.0 e),
      λ r. c.has_index.ensures.1 (routed_target t c.args.exchange.now c.args.key.now c.as_slice.result.now c.in-Some.index c.args.queue.now c.ghost_is_well_formed.ensures (rw c.as_slice.ensures.value c.in_ok-targets.ensures) c.in-Some.ensures.within c.in-Some.ensures.named r),
    )

pub returns : goal.returns
returns c = (λ e. absurd (cc), λ r. absurd (c.in-None.ensures.absent (routed_there c.args.topology.now c.args.exchange.now c.args.key.now c.args.queue.now c.ghost_is_well_formed.ensures r)))
