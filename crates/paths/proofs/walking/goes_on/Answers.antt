use Rattle.paths.proofs.Names.{◌≡◌, arith, subst, sym, ap, List, [], Bool, ◌∙◌, ◌↔◌, Decides, ◌&&◌, list_any, drop_all, bytes_eq-Decides, Text, KeyedPlace, AreOneOn, WalksOn, SomeGoesOn, is_queue}
use Rattle.std.proofs.Common.{false}
use Rattle.paths.specs.declared.keyed.KeyedPlace.TheVariants.{Exchange}
use Rattle.paths.proofs.Walks.{goes_more, goes_to_end}
use Rattle.paths.proofs.walking.goes_on.Goals.{then-eq, else-eq}
use Rattle.paths.proofs.walking.goes_on.Goals as goal

pub loop-next-preserved : goal.loop-next-preserved
loop-next-preserved c =
    let t = c.args.topology.now in
    let n : AreOneOn t c.loop-next.name.now c.next-item.result c.loop-next.locations.items c.in_ok-locations.locations.items =
    subst (λ (ss : List KeyedPlace). AreOneOn t c.loop-next.name.now c.next-item.result ss c.in_ok-locations.locations.items) c.as_slice.ensures.value
    (subst (λ (z : Text). AreOneOn t c.loop-next.name.now z c.as_slice.result.now c.in_ok-locations.locations.items) c.as_bytes.ensures c.in_ok-locations.ensures) in
    rw c.as_bytes-name.ensures
    (goes_more t c.args.queue.now c.loop-next.name.now c.args.rest.now c.loop-next.next-index c.next-item.result c.loop-next.locations.items c.in_ok-locations.locations.items
    (WalksOn t c.args.queue.now c.args.exchange.now c.args.rest.now (Exchange c.args.key.now)) (omega arith) c.next-item.is n c.loop-next.invariant)

else_and : (v w : Bool) → v ≡ false → v ≡ (v && w)
else_and v w e = e ∙ ap (λ (b : Bool). b && w) (sym e)

pub returns : goal.returns
returns c =
    let t = c.args.topology.now in
    let G : Type 0 = WalksOn t c.args.queue.now c.args.exchange.now c.args.rest.now (Exchange c.args.key.now) in
    let ss : List KeyedPlace = c.loop-next.locations.items in
    let d : Decides c.eq.result (c.loop-next.name.now ≡ c.args.queue.now) = subst (λ (b : Bool). Decides b (c.loop-next.name.now ≡ c.args.queue.now)) (sym c.eq.ensures) (bytes_eq-Decides c.loop-next.name.now c.args.queue.now) in
    let inv : SomeGoesOn t c.args.queue.now c.loop-next.name.now [] ss ↔ G =
    subst (λ (ns : List Text). SomeGoesOn t c.args.queue.now c.loop-next.name.now ns ss ↔ G) (drop_all c.loop-next.next-index c.args.rest.now c.loop-next-test.false) c.loop-next.invariant in
    let all : Decides (c.eq.result && list_any is_queue ss) G = goes_to_end t c.args.queue.now c.loop-next.name.now ss c.eq.result G d inv in
    elim c.if-eq.branch [
      | then-eq w ↦ subst (λ (b : Bool). Decides b G) (sym (w.result-is ∙ w.is_queued.ensures ∙ ap (λ (s : List KeyedPlace). list_any is_queue s) w.as_slice-then-eq.ensures.value ∙ ap (λ (b : Bool). b && list_any is_queue ss) (sym w.if-eq.true))) all
      | else-eq w ↦ subst (λ (b : Bool). Decides b G) (sym (w.result-is ∙ else_and c.eq.result (list_any is_queue ss) w.if-eq.false)) all
    ]
