use Rattle.serving.proofs.Names.{◌∙◌, Option, List, Bool, sym, subst, At, AreQuiet, Peer}
use Rattle.serving.proofs.Deeds.{closed_gone}
use Rattle.serving.proofs.Quieting.{is_quiet, quiet_freed, quiet_marked, is_gone_silent}
use Rattle.serving.proofs.Onward.{serves_at}
use Rattle.serving.proofs.rounds.close_slot.Goals as goal

pub returns-then-not-is_over-clause-quiet : goal.returns-then-not-is_over-clause-quiet
returns-then-not-is_over-clause-quiet g c =
    let w = g.M.Machine.world c.args.machine.now in
    let ps = c.args.peers.now.slots in
    let peer = c.in-Some.peer in
    let at : At ps c.args.slot peer = sym c.get.ensures ∙ sym c.copied.ensures ∙ c.in-Some.is in
    let quiet = is_quiet w peer.connection (sym c.is_over.ensures ∙ c.if-not-is_over.true) (sym c.has_output.ensures ∙ c.if-has_output.false) in
    subst (λ (ms : List Bool). AreQuiet w ps ms) (sym (c.learn.ensures ∙ c.mark.ensures)) (quiet_marked w ps c.args.slot peer c.args.quiet.now at quiet c.requires)

pub returns-clause-quiet : goal.returns-clause-quiet
returns-clause-quiet g c =
    let w = g.M.Machine.world c.args.machine.now in
    subst (λ (ps : List (Option Peer)). AreQuiet w ps c.args.quiet.now) (sym c.remove.ensures.slots) (quiet_freed w c.args.peers.now.slots c.args.slot c.args.quiet.now c.requires)

pub returns-clause-serves : goal.returns-clause-serves
returns-clause-serves g c =
    let w = g.M.Machine.world c.args.machine.now in
    let traffic = g.W.Wire.past in
    let ps = c.args.peers.now.slots in
    let peer = c.in-Some.peer in
    let at : At ps c.args.slot peer = sym c.get.ensures ∙ sym c.copied.ensures ∙ c.in-Some.is in
    let gone = is_gone_silent w peer.connection (sym c.is_over.ensures ∙ c.if-not-is_over.false) (sym c.has_output.ensures ∙ c.if-has_output.false) in
    serves_at _ _ _ _ _ _ _ c.remove.ensures.slots (closed_gone w ps c.args.slot peer (traffic c.args.wire.now) (traffic c.close.new.self) at gone c.close.ensures)
