use Rattle.serving.proofs.Names.{◌≤◌, ◌+◌, ◌∙◌, length, refl, arith, served}
use Rattle.serving.proofs.Fits.{in_slots_on}
use Rattle.serving.proofs.Waiting.{passes_all, passes_none, passes_on, passes_read}
use Rattle.serving.proofs.Passing.{passes_full}
use Rattle.serving.proofs.rounds.read_all.Goals as goal

pub loop-slot-init : goal.loop-slot-init
loop-slot-init g c =
    let world = g.M.Machine.world in
    let traffic = g.W.Wire.past in
    let ps = c.args.peers.now.slots in
    let start = served (world c.args.machine.now) ps (traffic c.args.wire.now) in
    let first = c.pass_quiet-slot.ensures in
    record {
      in_slots = c.requires.in_slots;
      full = c.requires.full;
      capacity = refl;
      passes = passes_on start start.world ps c.args.quiet.now 0 c.pass_quiet-slot.result start.traffic (traffic c.pass_quiet-slot.new.wire) _ first.least
          c.requires.in_slots.quiet first.marked first.traffic (passes_none start.world ps start.traffic);
    }

pub loop-slot-preserved : goal.loop-slot-preserved
loop-slot-preserved g c =
    let world = g.M.Machine.world in
    let traffic = g.W.Wire.past in
    let inv = c.loop-slot.invariant in
    let i = c.loop-slot.slot in
    let start = served (world c.args.machine.now) c.args.peers.now.slots (traffic c.args.wire.now) in
    let mid = served (world c.loop-slot.machine) c.loop-slot.peers.slots (traffic c.loop-slot.wire) in
    let next = served (world c.read_slot-done.new.machine) c.read_slot-done.new.peers.slots (traffic c.read_slot-done.new.wire) in
    let one = c.read_slot-done.ensures in
    let run = c.pass_quiet-slot-in-loop-slot.ensures in
    let full = one.full c.args.full.now inv.full in
    let read = passes_read start mid next i c.loop-slot.done c.read_slot-done.result one.serves one.later one.due inv.passes in
    let behind = passes_full start next.world next.peers c.args.full.now (i + 1) c.next_loud-next.result next.traffic _ full c.next_loud-next.ensures read in
    record {
      in_slots = in_slots_on mid next _ _ _ _ one.serves inv.in_slots one.quiet;
      full = full;
      capacity = one.capacity ∙ inv.capacity;
      passes = passes_on start next.world next.peers c.read_slot-done.new.quiet c.next_loud-next.result c.pass_quiet-slot-in-loop-slot.result next.traffic
          (traffic c.pass_quiet-slot-in-loop-slot.new.wire) _ run.least one.quiet run.marked run.traffic behind;
    }

-- all slots are behind the last
pub returns-clause-serves : goal.returns-clause-serves
returns-clause-serves g c =
    let world = g.M.Machine.world in
    let traffic = g.W.Wire.past in
    let start = served (world c.args.machine.now) c.args.peers.now.slots (traffic c.args.wire.now) in
    let all : length start.peers ≤ c.capacity-end.result = c.capacity-end.ensures.slots in
    let test = c.loop-slot-test.false in
    passes_all start (world c.loop-slot.machine) c.loop-slot.peers.slots (traffic c.loop-slot.wire) c.loop-slot.slot c.loop-slot.done (omega (arith, all, test)) c.loop-slot.invariant.passes
