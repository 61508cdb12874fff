use Rattle.broker.proofs.Names.{◌∙◌, ◌+◌, List, length, drop, refl, sym, subst, take_at, Pick, Queue, Rounds, NonePassed, PicksFirst, PicksFrom}
use Rattle.broker.proofs.rounds.ConsumerRounds.pick.Goals as goal

pub returns-clause-picked : goal.returns-clause-picked
returns-clause-picked c =
    let core = c.args.core.now in
    let lines = c.self.inside.lines.items in
    let new : List (Queue Pick) = c.first_from.new.lines in
    let queue = c.in_ok-found.found.queue in
    let pick = c.in_ok-found.found.pick in
    let whole = take_at new (drop (length new) lines) c.self.inside.lines.len (c.first_from.auto.lines ∙ c.deref_mut.ensures.len) in
    subst (λ (ls : List (Queue Pick)). PicksFirst core c.args.self.now (record { lines = ls; next = queue + 1 }) pick) (sym whole)
    (subst (λ (r : Rounds). PicksFirst core r (record { lines = new; next = queue + 1 }) pick) c.self.view_is
    (record {
      queue = queue;
      could = c.in_ok-found.ensures.some;
      passed = subst (λ (ls : List (Queue Pick)). NonePassed core (length ls) c.self.inside.next queue) c.deref_mut.ensures.value c.in_ok-found.ensures.passed;
      picked = subst (λ (ls : List (Queue Pick)). PicksFrom core ls new queue pick) c.deref_mut.ensures.value c.in_ok-found.ensures.picked;
      next = refl;
    }))
