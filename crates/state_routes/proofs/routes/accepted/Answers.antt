use Rattle.state_routes.proofs.Names.{◌∙◌, ◌++◌, ◌∷◌, [], List, Bool, sym, ap, append_assoc, drop, arith, ◌+◌, length, Tracked, accepted}
use Rattle.state_routes.proofs.Sure.{accepted_more}
use Rattle.state_routes.proofs.routes.accepted.Goals as goal

pub loop-place-preserved : goal.loop-place-preserved
loop-place-preserved c =
    rw c.in_ok-push.ensures.items
    (append_assoc c.loop-place.found.items (c.accepts.result ∷ []) (accepted (drop (c.loop-place.place + 1) c.args.letters.now) (drop (c.loop-place.place + 1) c.args.state.now))
    ∙ ap (λ (z : List Bool). c.loop-place.found.items ++ z) (sym (accepted_more c.args.letters.now c.args.state.now c.loop-place.place c.accepts.result c.requires (omega (arith, ap (λ (z : List Tracked). length z) c.patterns-place-end.ensures)) c.accepts.ensures))
    ∙ c.loop-place.invariant)
