use Rattle.std.proofs.Common.{◌+◌, ◌≤◌, List, ℕ, length, sym, ap, subst}
use Rattle.std.proofs.lemmas.Bool.{eqb-true}
use Rattle.model.specs.Spelling.{body_frame}
use Rattle.outputs.proofs.Putting.{Putting, putting_none, putting_fits, putting_more, putting_all, puts_frame, some_left}
use Rattle.outputs.proofs.sending.put_body.Goals as goal

pub pieces-init : goal.pieces-init
pieces-init c = putting_none c.args.max c.args.channel c.args.body.now c.args.output.now

pub put_frame-requires-clause-room : goal.put_frame-requires-clause-room
put_frame-requires-clause-room c =
    subst (λ (z : List ℕ). length z + 8 ≤ c.pieces.output.room) (sym c.cut.ensures.piece)
    (putting_fits c.args.max c.args.channel c.args.body.now c.pieces.rest.now c.args.output.now c.pieces.output c.requires.max (some_left c.pieces.rest.now (sym c.pieces-test.ensures)) c.requires.room c.pieces.invariant)

pub pieces-preserved : goal.pieces-preserved
pieces-preserved c =
    subst (λ (z : List ℕ). Putting c.args.max c.args.channel c.args.body.now c.args.output.now z c.put_frame.new.self) (sym c.cut.ensures.rest)
    (putting_more c.args.max c.args.channel c.args.body.now c.pieces.rest.now c.args.output.now c.pieces.output c.put_frame.new.self c.requires.max (some_left c.pieces.rest.now (sym c.pieces-test.ensures)) c.pieces.invariant
    (puts_frame c.pieces.output c.put_frame.new.self (body_frame c.args.channel _) (body_frame c.args.channel c.cut.result.0.now) (ap (body_frame c.args.channel) c.cut.ensures.piece) c.put_frame.ensures.bytes c.put_frame.ensures.room))

pub returns : goal.returns
returns c = putting_all c.args.max c.args.channel c.args.body.now c.pieces.rest.now c.args.output.now c.pieces.output (eqb-true _ _ (sym c.pieces-test.ensures)) c.pieces.invariant
