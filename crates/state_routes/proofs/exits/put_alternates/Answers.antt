use Rattle.state_routes.proofs.Names.{◌<◌, ℕ, arith, sym, subst, refl, get_or, Hop, in_get}
use Rattle.state_routes.proofs.Leaving.{links_done, links_more, itself}
use Rattle.state_routes.proofs.exits.put_alternates.Goals as goal

abbrev none : Hop
none = record { from = 0; to = 0 }

pub put_alternate-requires : goal.put_alternate-requires
put_alternate-requires c =
    subst (λ (n : ℕ). (get_or c.args.alternates.now c.loop-link.link-index none).from < n) (sym c.loop-link.invariant.size)
    (c.requires (get_or c.args.alternates.now c.loop-link.link-index none) (in_get c.args.alternates.now c.loop-link.link-index none (omega arith)))

pub loop-link-init : goal.loop-link-init
loop-link-init c = record { size = refl; gates = λ p. refl; alternates = λ p. refl }

pub loop-link-preserved : goal.loop-link-preserved
loop-link-preserved c =
    links_more c.args.alternates.now c.loop-link.link-index (get_or c.args.alternates.now c.loop-link.link-index none) c.args.exits.now.items c.loop-link.exits.items _ (omega arith)
    (itself c.args.alternates.now c.loop-link.link-index none (omega arith))
    (subst (λ (n : ℕ). (get_or c.args.alternates.now c.loop-link.link-index none).from < n) (sym c.loop-link.invariant.size)
    (c.requires (get_or c.args.alternates.now c.loop-link.link-index none) (in_get c.args.alternates.now c.loop-link.link-index none (omega arith))))
    c.in_ok-put_alternate.ensures c.loop-link.invariant

pub returns : goal.returns
returns c = links_done c.args.alternates.now c.loop-link.link-index c.args.exits.now.items c.loop-link.exits.items (omega arith) c.loop-link.invariant
