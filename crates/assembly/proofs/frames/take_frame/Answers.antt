use Rattle.assembly.proofs.Imports.{sym, ◌∙◌, TakesOn, seen, pending_at}
use Rattle.std.proofs.lemmas.Result.{err_from_is_err_and}
use Rattle.assembly.proofs.Places.{does_so, does_not, does_other, takes_heartbeat, spelled_same, pending_same}
use Rattle.assembly.proofs.frames.take_frame.Goals as goal

pub returns-then-frame-eq8-clause-does : goal.returns-then-frame-eq8-clause-does
returns-then-frame-eq8-clause-does c =
    let f = c.args.frame.now in
    let at = pending_at c.args.contents.now.items in
    does_so _ _ f.channel at at c.take_heartbeat.result (λ t e. takes_heartbeat c.args.keeps (at f.channel) (seen f) t c.if-frame-eq8.true e) (c.take_heartbeat.ensures at)

pub returns-in_err-reach-clause-spelled : goal.returns-in_err-reach-clause-spelled
returns-in_err-reach-clause-spelled c = spelled_same _ _ c.reach.ensures.same c.requires

pub take_on_channel-requires-clause-spelled : goal.take_on_channel-requires-clause-spelled
take_on_channel-requires-clause-spelled c = spelled_same _ _ c.reach.ensures.same c.requires

pub returns-in_err-reach-clause-does : goal.returns-in_err-reach-clause-does
returns-in_err-reach-clause-does c =
    let p = err_from_is_err_and c.from_residual.result c.from_residual.ensures.1 in
    let f = c.args.frame.now in
    rw p.1 (does_not (TakesOn c.args.keeps (pending_at c.args.contents.now.items f.channel) (seen f)) f.channel _ _ p.0 p.2 (pending_same _ _ c.reach.ensures.same))

pub returns-clause-does : goal.returns-clause-does
returns-clause-does c =
    let f = c.args.frame.now in
    does_other c.args.keeps (pending_at c.args.contents.now.items) (pending_at c.reach.new.contents.items) (pending_at c.take_on_channel.new.contents.items)
    (seen f) c.from-channel.result c.take_on_channel.result
    c.from-channel.ensures (pending_same _ _ c.reach.ensures.same) c.if-frame-eq8.false (sym c.is_on_wrong_channel.ensures ∙ c.if-is_on_wrong_channel.false)
    c.take_on_channel.ensures.does
