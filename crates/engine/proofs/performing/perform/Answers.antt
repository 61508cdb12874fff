use Rattle.engine.proofs.Names.{◌≡◌, ◌∙◌, sym, ap, is_running, DecidesByPhase, rules_of}
use Rattle.model.specs.declared.events.Phase.TheVariants as phase
use Rattle.broker.specs.Turns.{topology_kept, broker_of}
use Rattle.engine.proofs.Asked.{decides_running, decides_elsewhere, ok_map, ok_both}
use Rattle.engine.proofs.Replies.{broker_sends}
use Rattle.engine.proofs.Within.{acts_within, decided_within}
use Rattle.engine.specs.Allocating.{room_wanted, AreWithin}
use Rattle.engine.proofs.performing.perform.Goals as goal

pub returns-in_ok-step-in-Running-clause-ok : goal.returns-in_ok-step-in-Running-clause-ok
returns-in_ok-step-in-Running-clause-ok c =
    let b = c.args.broker.now in
    let s = c.args.session.now in
    let step = c.in_ok-step-in-Running.step in
    let runs : s.phase ≡ phase.Running = sym c.phase.ensures ∙ c.in-Running.is in
    decides_running c.args.c s.phase (rules_of (topology_kept b) c.args.users.now) (broker_of b) s c.args.event.now step.sends.items step.notes.items (broker_of c.step.new.broker) c.learn.new.session runs
    (record { acts = c.in_ok-step-in-Running.ensures.ok; session = rw (← c.deref.ensures.value) (c.learn.ensures (ap is_running runs)) })

pub returns-in_ok-step-in-Running-clause-own : goal.returns-in_ok-step-in-Running-clause-own
returns-in_ok-step-in-Running-clause-own c =
    let b = c.args.broker.now in
    let step = c.in_ok-step-in-Running.step in
    let did = c.in_ok-step-in-Running.ensures in
    broker_sends (topology_kept b) (broker_of b) (broker_of c.step.new.broker) c.args.c c.args.event.now step.sends.items step.notes.items c.requires.asked c.requires.said c.requires.carried did.ok (did.addressed c.requires.said c.requires.carried)

pub returns-in_default-clause-ok : goal.returns-in_default-clause-ok
returns-in_default-clause-ok c =
    let r = rules_of (topology_kept c.args.broker.now) c.args.users.now in
    let b = broker_of c.args.broker.now in
    let s = c.args.session.now in
    let e = c.args.event.now in
    let new_b = broker_of c.by_phase.new.broker in
    let new_s = c.by_phase.new.session in
    ok_map c.by_phase.result _ (λ d. DecidesByPhase c.args.c s.phase r b s e d.sends.items d.notes.items new_b new_s)
    (λ d by. decides_elsewhere c.args.c s.phase r b s e d.sends.items d.notes.items new_b new_s (λ is. c.in_default.not-Running (c.phase.ensures ∙ is)) by) c.by_phase.ensures.ok

pub returns-in_ok-step-in-Running-clause-size : goal.returns-in_ok-step-in-Running-clause-size
returns-in_ok-step-in-Running-clause-size c =
    let b = c.args.broker.now in
    let step = c.in_ok-step-in-Running.step in
    let did = c.in_ok-step-in-Running.ensures in
    acts_within (topology_kept b) (broker_of b) (broker_of c.step.new.broker) c.args.c c.args.event.now step.sends.items step.notes.items did.ok
    (broker_sends (topology_kept b) (broker_of b) (broker_of c.step.new.broker) c.args.c c.args.event.now step.sends.items step.notes.items c.requires.asked c.requires.said c.requires.carried did.ok (did.addressed c.requires.said c.requires.carried))

pub returns-in_default-clause-size : goal.returns-in_default-clause-size
returns-in_default-clause-size c =
    let r = rules_of (topology_kept c.args.broker.now) c.args.users.now in
    let b = broker_of c.args.broker.now in
    let s = c.args.session.now in
    let e = c.args.event.now in
    let new_b = broker_of c.by_phase.new.broker in
    let new_s = c.by_phase.new.session in
    ok_both c.by_phase.result _ _ (λ d. AreWithin (room_wanted e) d.sends.items)
    (λ d by own. decided_within c.args.c e r b new_b s new_s d.sends.items d.notes.items c.requires.asked
    (decides_elsewhere c.args.c s.phase r b s e d.sends.items d.notes.items new_b new_s (λ is. c.in_default.not-Running (c.phase.ensures ∙ is)) by) own) c.by_phase.ensures.ok c.by_phase.ensures.own
