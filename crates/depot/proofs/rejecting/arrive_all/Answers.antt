use Rattle.depot.proofs.Names.{◌≡◌, ◌∙◌, ◌<◌, ◌+◌, ◌≤◌, ◌∷◌, ℕ, List, length, ap, sym, subst, arith, All, entries_of, Arrival, arrived, arriving_at, room_at, times}
use Rattle.depot.proofs.Turning.{here_once, within_rest}
use Rattle.depot.proofs.rejecting.arrive_all.Goals as goal

pub arrive-requires-clause-within : goal.arrive-requires-clause-within
arrive-requires-clause-within c =
    let within : All (λ (i : ℕ). i < length c.loop-arrival.queues) (arriving_at (c.in-Some.arrival ∷ c.next.new.self.rest.items))
    = subst (λ (as' : List Arrival). All (λ (i : ℕ). i < length c.loop-arrival.queues) (arriving_at as')) c.in-Some.ensures.steps.0 c.loop-arrival.invariant.within in
    within 0 0 (omega arith)

pub arrive-requires-clause-room : goal.arrive-requires-clause-room
arrive-requires-clause-room c =
    let room = subst (λ (as' : List Arrival). times c.in-Some.arrival.place (arriving_at as') ≤ room_at c.loop-arrival.queues c.in-Some.arrival.place) c.in-Some.ensures.steps.0 (c.loop-arrival.invariant.room c.in-Some.arrival.place) in
    let once = here_once c.in-Some.arrival.place (arriving_at c.next.new.self.rest.items) in
    omega (arith, room, once)

pub loop-arrival-preserved : goal.loop-arrival-preserved
loop-arrival-preserved c =
    let inv = c.loop-arrival.invariant in
    let a = c.in-Some.arrival in
    let rest = c.next.new.self.rest.items in
    let next = c.in-Some.ensures.steps.0 in
    let len = c.arrive.ensures.len in
    let within : All (λ (i : ℕ). i < length c.loop-arrival.queues) (arriving_at (a ∷ rest)) = subst (λ (as' : List Arrival). All (λ (i : ℕ). i < length c.loop-arrival.queues) (arriving_at as')) next inv.within in
    record {
      arrived =
          ap (arrived rest) c.arrive.ensures.arrived
          ∙ ap (λ (as' : List Arrival). arrived as' (entries_of c.loop-arrival.queues)) (sym next)
          ∙ inv.arrived;
      len = len ∙ inv.len;
      within = subst (λ (n : ℕ). All (λ (i : ℕ). i < n) (arriving_at rest)) (sym len) (within_rest _ a.place (arriving_at rest) within);
      room = λ k.
          let room = subst (λ (as' : List Arrival). times k (arriving_at as') ≤ room_at c.loop-arrival.queues k) next (inv.room k) in
          let less = c.arrive.ensures.room k in
          omega (arith, room, less);
      spent = λ k.
          let had = subst (λ (as' : List Arrival). room_at c.loop-arrival.queues k + times k (arriving_at c.args.arrivals.items) ≡ room_at c.args.queues.now k + times k (arriving_at as')) next (inv.spent k) in
          let less = c.arrive.ensures.room k in
          omega (arith, had, less);
    }
