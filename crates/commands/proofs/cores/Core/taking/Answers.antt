use Rattle.commands.proofs.Names.{◌≡◌, ◌∙◌, ap, refl, sym, subst, None, running_in, ReturnsTaking, Kept, From, Nothing}
use Rattle.std.proofs.Common.{Some}
use Rattle.std.specs.Option.{option_copied}
use Rattle.commands.proofs.Delivered.{takes_from, keeps_one, tells_is}
use Rattle.commands.proofs.cores.Core.taking.Goals as goal

pub returns-in-Some-taker : goal.returns-in-Some-taker
returns-in-Some-taker c =
    let kept : Kept = record { store = c.self.inside.depot; connections = c.self.inside.connections } in
    let there : running_in kept.connections c.args.pick.connection ≡ Some c.in-Some.running.now = sym c.get.ensures ∙ ap option_copied c.in-Some.is in
    subst (λ (k : Kept). ReturnsTaking k c.args.pick (From c.in-Some-taker.consumer.now.queue)) c.self.view_is
    (takes_from kept c.args.pick c.in-Some.running.now c.in-Some-taker.consumer.now there c.self.invariant c.in-Some-taker.ensures)

pub returns-in-Some-consumer : goal.returns-in-Some-consumer
returns-in-Some-consumer c =
    let kept : Kept = record { store = c.self.inside.depot; connections = c.self.inside.connections } in
    let there : running_in kept.connections c.args.pick.connection ≡ Some c.in-Some.running.now = sym c.get.ensures ∙ ap option_copied c.in-Some.is in
    let k = c.in-Some-consumer.consumer.now in
    subst (λ (x : Kept). ReturnsTaking x c.args.pick (Nothing k.queue)) c.self.view_is
    (k, keeps_one kept c.args.pick c.in-Some.running.now k there c.self.invariant (sym c.in-Some-consumer.ensures.found) c.in-Some-consumer.ensures.one, refl, tells_is kept c.args.pick c.in-Some.running.now None there c.self.invariant c.in_default-taker.ensures)
