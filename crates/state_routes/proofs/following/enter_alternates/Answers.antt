use Rattle.state_routes.proofs.Names.{◌<◌, ℕ, arith, sym, subst, get_or, Hop, in_get}
use Rattle.state_routes.proofs.Leaving.{itself}
use Rattle.state_routes.proofs.Spreading.{enters_none, alternates_more, alternates_all}
use Rattle.state_routes.proofs.following.enter_alternates.Goals as goal

abbrev none : Hop
none = record { from = 0; to = 0 }

pub enter_alternate-requires : goal.enter_alternate-requires
enter_alternate-requires c =
    subst (λ (n : ℕ). (get_or c.args.alternates.now c.loop-link.link-index none).to < n) (sym c.loop-link.invariant.size)
    (c.requires (get_or c.args.alternates.now c.loop-link.link-index none) (in_get c.args.alternates.now c.loop-link.link-index none (omega arith)))

pub loop-link-init : goal.loop-link-init
loop-link-init c = enters_none c.args.marks.now c.args.rest.now.items

pub loop-link-preserved : goal.loop-link-preserved
loop-link-preserved c =
    alternates_more c.args.mode c.args.gates.now c.args.accepted.now c.args.alternates.now c.loop-link.link-index (get_or c.args.alternates.now c.loop-link.link-index none) c.args.marks.now c.loop-link.marks _ c.args.rest.now.items c.loop-link.rest.items _ (omega arith)
    (itself c.args.alternates.now c.loop-link.link-index none (omega arith)) c.loop-link.invariant c.in_ok-enter_alternate.ensures

pub returns : goal.returns
returns c = alternates_all c.args.mode c.args.gates.now c.args.accepted.now c.args.alternates.now c.loop-link.link-index c.args.marks.now c.loop-link.marks c.args.rest.now.items c.loop-link.rest.items (omega arith) c.loop-link.invariant
