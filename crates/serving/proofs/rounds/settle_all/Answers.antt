use Rattle.serving.proofs.Names.{◌<◌, ◌≤◌, ◌+◌, ◌∙◌, ◌++◌, ℕ, [], List, None, length, refl, sym, subst, inl, inr, slice_index_or, arith, cases_eq, cases_lt, Bool, false, ◌||◌, Ask, Serves, served, HasEnded, write_of, writes_due}
use Rattle.std.proofs.Math.Bool.{or-false}
use Rattle.serving.proofs.Onward.{serves_then}
use Rattle.serving.proofs.Others.{later_on, due_on}
use Rattle.serving.proofs.Fits.{in_slots_on, slot_within}
use Rattle.serving.proofs.Loudness.{all_passed}
use Rattle.serving.proofs.Passing.{passed_on, passes_writes}
use Rattle.serving.proofs.rounds.settle_all.Goals as goal

pub loop-slot-init : goal.loop-slot-init
loop-slot-init g c =
    let world = g.M.Machine.world in
    let traffic = g.W.Wire.past in
    let start = served (world c.args.machine.now) c.args.peers.now.slots (traffic c.args.wire.now) in
    let j = c.pass_marked-slot.result in
    let next = c.pass_marked-slot.ensures in
    let passes = passes_writes {L = g.M.Machine.lacks} start.world start.peers 0 j start.traffic (traffic c.pass_marked-slot.new.wire) (omega arith) (next.traffic start.world c.requires.in_slots.quiet) in
    record {
      in_slots = c.requires.in_slots;
      full = c.requires.full;
      length = refl;
      capacity = refl;
      loud = next.loud;
      ended = λ k lt. next.ended start.world c.requires.in_slots.quiet c.requires.full k (omega arith) lt;
      so_far = (
        passes.asked,
        passes.serves,
        passed_on start.world start.peers start.peers 0 j [] (writes_due start) start.traffic (traffic c.pass_marked-slot.new.wire) (omega arith) passes refl refl,
      );
    }

pub loop-slot-preserved : goal.loop-slot-preserved
loop-slot-preserved g c =
    let world = g.M.Machine.world in
    let traffic = g.W.Wire.past in
    let inv = c.loop-slot.invariant in
    let i = c.loop-slot.slot in
    let j = c.pass_marked-slot-in-loop-slot.result in
    let start = served (world c.args.machine.now) c.args.peers.now.slots (traffic c.args.wire.now) in
    let here = served (world c.loop-slot.machine) c.loop-slot.peers.slots (traffic c.loop-slot.wire) in
    let settled = served (world c.settle_slot-done.new.machine) c.settle_slot-done.new.peers.slots (traffic c.settle_slot-done.new.wire) in
    let passed = served settled.world settled.peers (traffic c.pass_marked-slot-in-loop-slot.new.wire) in
    let one = c.settle_slot-done.ensures in
    let next = c.pass_marked-slot-in-loop-slot.ensures in
    let passes = passes_writes {L = g.M.Machine.lacks} settled.world settled.peers (i + 1) j settled.traffic passed.traffic next.least (next.traffic settled.world one.quiet) in
    let asked = inv.so_far.0 ++ write_of here.world (slice_index_or here.peers i None) in
    let before : (k : ℕ) → k < i + 1 → HasEnded settled.world settled.peers k = λ k lt. elim (cases_eq k i) [
      | inl e ↦ subst (λ (n : ℕ). HasEnded settled.world settled.peers n) (sym e) one.ended
      | inr ne ↦ let less : k < i = omega (arith, lt, ne) in one.before k less (inv.ended k less)
    ] in
    let later = one.later ∙ later_on start.peers here.peers i inv.so_far.2.later in
    let due = due_on (write_of here.world) (write_of settled.world) refl start.peers here.peers i inv.so_far.0 (writes_due start) inv.so_far.2.later one.due inv.so_far.2.so_far in
    let acted = c.loop-slot.done || c.settle_slot-done.result in
    let all = serves_then start settled passed asked passes.asked acted false (serves_then start here settled _ _ _ _ inv.so_far.1 one.serves) passes.serves in
    record {
      in_slots = in_slots_on here settled _ _ _ _ one.serves inv.in_slots one.quiet;
      full = one.full;
      length = one.length ∙ inv.length;
      capacity = one.capacity ∙ inv.capacity;
      loud = next.loud;
      ended = λ k lt. elim (cases_lt k (i + 1)) [
        | inl less ↦ before k less
        | inr from ↦ next.ended settled.world one.quiet one.full k from lt
      ];
      so_far = (
        asked ++ passes.asked,
        subst (λ (x : Bool). Serves g.M.Machine.lacks start (asked ++ passes.asked) x passed) (or-false acted) all,
        passed_on settled.world start.peers settled.peers (i + 1) j asked (writes_due start) settled.traffic passed.traffic next.least passes later due,
      );
    }

pub returns-clause-ended : goal.returns-clause-ended
returns-clause-ended g c = λ i p at.
    let inv = c.loop-slot.invariant in
    let within : i < length c.loop-slot.peers.slots = slot_within c.loop-slot.peers.slots i p at in
    let all : length c.args.peers.now.slots ≤ c.capacity-end.result = c.capacity-end.ensures.slots in
    let test = c.loop-slot-test.false in
    inv.ended i (omega (arith, within, all, inv.length, test)) p at

pub returns-clause-serves : goal.returns-clause-serves
returns-clause-serves g c =
    let world = g.M.Machine.world in
    let traffic = g.W.Wire.past in
    let inv = c.loop-slot.invariant in
    let start = served (world c.args.machine.now) c.args.peers.now.slots (traffic c.args.wire.now) in
    let here = served (world c.loop-slot.machine) c.loop-slot.peers.slots (traffic c.loop-slot.wire) in
    let all : length start.peers ≤ c.capacity-end.result = c.capacity-end.ensures.slots in
    let test = c.loop-slot-test.false in
    let asked = all_passed here.world start.peers here.peers c.loop-slot.slot inv.so_far.0 (writes_due start) (omega (arith, all, test)) inv.so_far.2 in
    subst (λ (z : List Ask). Serves g.M.Machine.lacks start z c.loop-slot.done here) asked inv.so_far.1
