use Rattle.server.proofs.Names.{◌∙◌, no_room}
use Rattle.server.proofs.Reloads.{one_more, not_this}
use Rattle.server.proofs.replaying.arrivals_of.Goals as goal

pub returns-in-Err-clause-set_up : goal.returns-in-Err-clause-set_up
returns-in-Err-clause-set_up g c =
    not_this (g.F.Files.holds c.args.files.now) (g.F.Files.holds c.loop-one.files) c.args.said.now c.loop-one.one-index c.one-item.result c.loop-one.arrivals.items _ _
    c.loop-one.invariant.kept c.loop-one-test.true c.one-item.is c.loop-one.invariant.set_up c.in-Err.ensures.set_up

pub returns-in-Err-push-clause-set_up : goal.returns-in-Err-push-clause-set_up
returns-in-Err-push-clause-set_up g c = rw c.from-in-Err-push.ensures no_room

pub loop-one-preserved : goal.loop-one-preserved
loop-one-preserved g c =
    let more = one_more (g.F.Files.holds c.args.files.now) (g.F.Files.holds c.loop-one.files) c.args.said.now c.loop-one.one-index c.one-item.result c.loop-one.arrivals.items c.in-Ok.arrival
    c.loop-one.invariant.kept c.loop-one-test.true c.one-item.is c.loop-one.invariant.set_up c.in-Ok.ensures.set_up in
    record {
      set_up = rw c.in_default.ensures.items more;
      kept = λ name. c.in-Ok.ensures.files name ∙ c.loop-one.invariant.kept name;
    }
