use Rattle.serving.proofs.Names.{◌≤◌, ◌∙◌, ℕ, false, sym, subst, ◌||◌, served, most_peers}
use Rattle.std.proofs.Math.Bool.{or-false}
use Rattle.serving.proofs.Onward.{serves_not}
use Rattle.serving.proofs.Fits.{in_slots_on}
use Rattle.serving.proofs.rounds.go_round.Goals as goal

pub read_all-has_heard-requires : goal.read_all-has_heard-requires
read_all-has_heard-requires g c = record {
  in_slots = in_slots_on _ _ _ _ _ _ c.accept_one-has_met.ensures.serves c.requires.settled.in_slots c.accept_one-has_met.ensures.quiet;
  full = c.accept_one-has_met.ensures.full c.args.full.now c.requires.full;
  room = c.requires.room;
}

pub settle_all-has_settled-requires : goal.settle_all-has_settled-requires
settle_all-has_settled-requires g c = record {
  in_slots = c.pump_all-has_pumped.ensures.in_slots;
  full = c.pump_all-has_pumped.ensures.full c.args.full.now c.read_all-has_heard.ensures.full;
}

pub returns : goal.returns
returns g c =
    let world = g.M.Machine.world in
    let traffic = g.W.Wire.past in
    let met = served (world c.accept_one-has_met.new.machine) c.accept_one-has_met.new.peers.slots (traffic c.accept_one-has_met.new.wire) in
    let heard = served (world c.read_all-has_heard.new.machine) c.read_all-has_heard.new.peers.slots (traffic c.read_all-has_heard.new.wire) in
    let pumped = served (world c.pump_all-has_pumped.new.machine) heard.peers heard.traffic in
    let settled = served (world c.settle_all-has_settled.new.machine) c.settle_all-has_settled.new.peers.slots (traffic c.settle_all-has_settled.new.wire) in
    let pumps = c.pump_all-has_pumped.ensures.pumps heard.traffic in
    let capacity = c.settle_all-has_settled.ensures.capacity ∙ c.read_all-has_heard.ensures.capacity ∙ c.accept_one-has_met.ensures.capacity in
    record {
      settled = record {
        in_slots = c.settle_all-has_settled.ensures.in_slots;
        ended = c.settle_all-has_settled.ensures.ended;
        most = subst (λ (n : ℕ). most_peers ≤ n) (sym capacity) c.requires.settled.most;
      };
      full = c.settle_all-has_settled.ensures.full;
      capacity = capacity;
      round = record {
        met = met;
        heard = heard;
        pumped = pumped;
        given = settled;
        has_met = c.accept_one-has_met.result;
        has_heard = c.read_all-has_heard.result;
        has_pumped = c.pump_all-has_pumped.result;
        has_given = c.settle_all-has_settled.result;
        has_closed = false;
        accepts = c.accept_one-has_met.ensures.serves;
        reads = c.read_all-has_heard.ensures.serves;
        pumps = pumps;
        writes = c.settle_all-has_settled.ensures.serves;
        closes = serves_not settled;
        ended = c.settle_all-has_settled.ensures.ended;
        acts = sym (or-false (((c.accept_one-has_met.result || c.read_all-has_heard.result) || c.pump_all-has_pumped.result) || c.settle_all-has_settled.result));
      };
    }
