use Rattle.serving.proofs.Names.{true, false, arith, served, PumpsOnce, enough_output, most_pumps}
use Rattle.serving.proofs.Growing.{grown_enough, grown_none, longer_not, longer_then}
use Rattle.serving.proofs.Pumping.{pumped_not, pumped_more, pumped_last, pumped_all, pumped_enough}
use Rattle.serving.proofs.rounds.pump_all.Goals as goal

pub loop-init : goal.loop-init
loop-init g c =
    let world = g.M.Machine.world in
    let ps = c.args.peers.now.slots in
    record {
      in_slots = c.requires;
      full = λ marks full. full;
      longer = longer_not (world c.args.machine.now);
      grown = grown_none (world c.args.machine.now) ps _ c.begin.ensures;
      so_far = λ traffic. pumped_not most_pumps enough_output (served (world c.args.machine.now) ps traffic);
    }

pub loop-preserved : goal.loop-preserved
loop-preserved g c =
    let world = g.M.Machine.world in
    let inv = c.loop.invariant in
    let ps = c.args.peers.now.slots in
    record {
      in_slots = c.pump_once.ensures.in_slots;
      full = λ marks full. c.pump_once.ensures.full marks (inv.full marks full);
      longer = longer_then (world c.args.machine.now) (world c.loop.machine) (world c.pump_once.new.machine) inv.longer c.pump_once.ensures.longer;
      grown = c.pump_once.ensures.counted (world c.args.machine.now) inv.longer inv.grown;
      so_far = λ traffic.
          let here = served (world c.loop.machine) ps traffic in
          let next = served (world c.pump_once.new.machine) ps traffic in
          let one : PumpsOnce g.M.Machine.lacks here true next = rw c.if-not-pump_once.false at c.pump_once.ensures.pumps ps traffic in
          pumped_more most_pumps enough_output c.loop.counter (served (world c.args.machine.now) ps traffic) here next c.loop.done c.loop-test.true (inv.so_far traffic) one;
    }

pub returns-then-is_enough-clause-pumps : goal.returns-then-is_enough-clause-pumps
returns-then-is_enough-clause-pumps g c = λ traffic.
    let world = g.M.Machine.world in
    let ps = c.args.peers.now.slots in
    let inv = c.loop.invariant in
    let much = grown_enough enough_output (world c.args.machine.now) (world c.loop.machine) ps _ inv.grown (c.is_enough.ensures c.if-is_enough.true) in
    pumped_enough most_pumps enough_output c.loop.counter (served (world c.args.machine.now) ps traffic) (served (world c.loop.machine) ps traffic) c.loop.done c.loop-test.true much (inv.so_far traffic)

pub returns-then-not-pump_once-clause-pumps : goal.returns-then-not-pump_once-clause-pumps
returns-then-not-pump_once-clause-pumps g c = λ traffic.
    let world = g.M.Machine.world in
    let ps = c.args.peers.now.slots in
    let here = served (world c.loop.machine) ps traffic in
    let next = served (world c.pump_once.new.machine) ps traffic in
    let last : PumpsOnce g.M.Machine.lacks here false next = rw c.if-not-pump_once.true at c.pump_once.ensures.pumps ps traffic in
    pumped_last most_pumps enough_output c.loop.counter (served (world c.args.machine.now) ps traffic) here next c.loop.done c.loop-test.true (c.loop.invariant.so_far traffic) last

pub returns-clause-pumps : goal.returns-clause-pumps
returns-clause-pumps g c = λ traffic.
    let world = g.M.Machine.world in
    let ps = c.args.peers.now.slots in
    pumped_all most_pumps enough_output c.loop.counter (served (world c.args.machine.now) ps traffic) (served (world c.loop.machine) ps traffic) c.loop.done (omega (arith, c.loop-test.false)) (c.loop.invariant.so_far traffic)

pub returns-then-not-pump_once-clause-full : goal.returns-then-not-pump_once-clause-full
returns-then-not-pump_once-clause-full g c = λ marks full. c.pump_once.ensures.full marks (c.loop.invariant.full marks full)
