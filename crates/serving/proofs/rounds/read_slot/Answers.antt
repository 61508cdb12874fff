use Rattle.serving.proofs.Names.{◌∙◌, sym, subst, refl, List, Bool, At, AreQuiet}
use Rattle.serving.proofs.Others.{reads_behind}
use Rattle.serving.proofs.Quieting.{quiet_idle, quiet_apart, still_marked}
use Rattle.serving.proofs.Fullness.{full_read}
use Rattle.serving.proofs.rounds.read_slot.Goals as goal

pub returns-clause-due : goal.returns-clause-due
returns-clause-due g c =
    let world = g.M.Machine.world in
    reads_behind (world c.args.machine.now) (world c.read_one.new.machine) c.args.peers.now.slots c.args.slot c.in-Some.peer c.read_one.ensures.others c.requires.in_slots.fit (sym c.get.ensures ∙ sym c.copied.ensures ∙ c.in-Some.is)

pub returns-then-not-read_one-clause-due : goal.returns-then-not-read_one-clause-due
returns-then-not-read_one-clause-due g c =
    let world = g.M.Machine.world in
    reads_behind (world c.args.machine.now) (world c.read_one.new.machine) c.args.peers.now.slots c.args.slot c.in-Some.peer c.read_one.ensures.others c.requires.in_slots.fit (sym c.get.ensures ∙ sym c.copied.ensures ∙ c.in-Some.is)

pub returns-then-not-read_one-clause-quiet : goal.returns-then-not-read_one-clause-quiet
returns-then-not-read_one-clause-quiet g c =
    let world = g.M.Machine.world in
    quiet_idle (world c.args.machine.now) (world c.read_one.new.machine) c.args.peers.now.slots c.read_one.new.peers.slots c.args.slot c.args.quiet.now c.args.quiet.now
    (c.read_one.ensures.idle c.if-not-read_one.true) c.read_one.ensures.slots (λ j. refl) c.requires.in_slots.quiet

pub returns-clause-quiet : goal.returns-clause-quiet
returns-clause-quiet g c =
    let world = g.M.Machine.world in
    let ps = c.args.peers.now.slots in
    let at : At ps c.args.slot c.in-Some.peer = sym c.get.ensures ∙ sym c.copied.ensures ∙ c.in-Some.is in
    subst (λ (ms : List Bool). AreQuiet (world c.read_one.new.machine) c.read_one.new.peers.slots ms) (sym c.mark.ensures)
    (quiet_apart (world c.args.machine.now) (world c.read_one.new.machine) ps c.read_one.new.peers.slots c.args.slot c.in-Some.peer c.args.quiet.now _
    c.requires.in_slots.fit at c.read_one.ensures.others c.read_one.ensures.slots (still_marked c.args.quiet.now c.args.slot) c.requires.in_slots.quiet)

pub returns-then-not-read_one-clause-full : goal.returns-then-not-read_one-clause-full
returns-then-not-read_one-clause-full g c = λ marks full.
    let world = g.M.Machine.world in
    let at : At c.args.peers.now.slots c.args.slot c.in-Some.peer = sym c.get.ensures ∙ sym c.copied.ensures ∙ c.in-Some.is in
    full_read (world c.args.machine.now) (world c.read_one.new.machine) c.args.peers.now.slots c.read_one.new.peers.slots c.args.slot c.in-Some.peer marks
    c.requires.in_slots.fit at (sym c.is_slot_awake.ensures ∙ c.if-not-is_slot_awake.false) c.read_one.ensures.others c.read_one.ensures.slots full

pub returns-clause-full : goal.returns-clause-full
returns-clause-full g c = λ marks full.
    let world = g.M.Machine.world in
    let at : At c.args.peers.now.slots c.args.slot c.in-Some.peer = sym c.get.ensures ∙ sym c.copied.ensures ∙ c.in-Some.is in
    full_read (world c.args.machine.now) (world c.read_one.new.machine) c.args.peers.now.slots c.read_one.new.peers.slots c.args.slot c.in-Some.peer marks
    c.requires.in_slots.fit at (sym c.is_slot_awake.ensures ∙ c.if-not-is_slot_awake.false) c.read_one.ensures.others c.read_one.ensures.slots full
