use Rattle.runs.proofs.Names.{map, [], ◌∷◌, ◌++◌, sym, subst, ap, ◌∙◌, arith, List, take, map-append, take_more, Config, with_setup, Arrival, PlaysAndRecords}
use Rattle.runs.proofs.Onward.{plays_more, plays_none}
use Rattle.runs.proofs.runs.play.Goals as goal

pub loop-arrival-init : goal.loop-arrival-init
loop-arrival-init g c = record { played = plays_none (g.M.Machine.world c.args.machine.now) c.args.transcript.now }

pub loop-arrival-preserved : goal.loop-arrival-preserved
loop-arrival-preserved g c =
    let world = g.M.Machine.world in
    let f = with_setup g.M.Machine.config in
    let all = c.args.arrivals.now in
    let i = c.loop-arrival.arrival-index in
    let item = c.arrival-item.result in
    let done = take i all in
    let one_more = take_more all i item (omega arith) ∙ ap (λ a. done ++ a ∷ []) (sym c.arrival-item.is) in
    record {
      played = subst (λ (z : List (Arrival Config)). PlaysAndRecords (world c.args.machine.now) z c.args.transcript.now (world c.arrive.new.machine) c.arrive.new.transcript)
          (sym (ap (map f) one_more ∙ map-append f done (item ∷ [])))
          (plays_more (world c.args.machine.now) (world c.loop-arrival.machine) (world c.arrive.new.machine) (map f done) (f item) c.args.transcript.now c.loop-arrival.transcript c.arrive.new.transcript
          c.loop-arrival.invariant.played c.in_ok-arrive.ensures);
    }
