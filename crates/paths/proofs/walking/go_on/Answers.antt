use Rattle.paths.proofs.Names.{◌≡◌, true, subst, on_ok_weaker, Decides, ◌↔◌, Text, LeadsToQueue, LeadsOn, KeyedPlace, Queue, NextLocation}
use Rattle.std.specs.Prelude.{◌⊎◌}
use Rattle.paths.specs.declared.keyed.KeyedPlace.TheVariants.{Exchange}
use Rattle.paths.proofs.Among.{add_both, on_or_into}
use Rattle.paths.proofs.walking.go_on.Goals as goal

pub returns : goal.returns
returns c =
    let t = c.args.topology.now in
    let k : Text = c.args.key.now in
    let on' : Decides c.in_ok-on.on (LeadsOn t k c.args.name.now c.args.next.now) = subst (λ (z : Text). Decides c.in_ok-on.on (LeadsOn t z c.args.name.now c.args.next.now)) c.as_bytes.ensures c.in_ok-on.ensures in
    let into' : Decides c.in_ok-into.into (LeadsToQueue t k c.args.name.now c.args.next.now) = subst (λ (z : Text). Decides c.in_ok-into.into (LeadsToQueue t z c.args.name.now c.args.next.now)) c.as_bytes-2.ensures c.in_ok-into.ensures in
    let is : (s : KeyedPlace) → NextLocation t c.args.name.now c.args.next.now (Exchange k) s ↔ (((c.in_ok-on.on ≡ true) × (s ≡ Exchange c.in_ok-clone.field-0)) ⊎ ((c.in_ok-into.into ≡ true) × (s ≡ Queue c.in_ok-clone-2.field-0))) =
    rw (c.in_ok-clone.ensures, c.in_ok-clone-2.ensures) (on_or_into t c.args.name.now c.args.next.now k c.in_ok-on.on c.in_ok-into.into on' into') in
    on_ok_weaker c.add_if-2.result (λ b. add_both _ _ _ c.args.locations.now.items c.add_if.new.locations.items c.add_if-2.new.locations.items is c.in_ok-add_if.ensures b) c.add_if-2.ensures
