use Rattle.broker.proofs.Names.{◌+◌, ℕ, Option, sym, subst, arith, HasReady, IsNextMarked}
use Rattle.broker.proofs.Marked.{none_passed}
use Rattle.broker.proofs.rounds.queue_lines.next_both.Goals as goal

pub returns-then-place-ready : goal.returns-then-place-ready
returns-then-place-ready c =
    let least = c.turns.invariant.least in
    let next = c.in-Some.ensures.least in
    let on = c.in_ok-place.ensures.some.least in
    record {
      least = omega (arith, least, next, on);
      within = let same = c.if-place-ready.true in let within = c.in-Some.ensures.within in omega (arith, same, within);
      ready = subst (HasReady c.args.core.now.store) (sym c.if-place-ready.true) c.in-Some.ensures.ready;
      marked = c.in_ok-place.ensures.some.there;
      before = none_passed c.args.core.now c.args.awake.now c.args.from c.turns.next c.in-Some.ready c.in_ok-place.place c.turns.invariant.none c.in-Some.ensures.before c.in_ok-place.ensures.some.before;
    }

pub turns-preserved : goal.turns-preserved
turns-preserved c =
    let least = c.turns.invariant.least in
    let next = c.in-Some.ensures.least in
    let on = c.in_ok-place.ensures.some.least in
    record {
      least = omega (arith, least, next, on);
      none = none_passed c.args.core.now c.args.awake.now c.args.from c.turns.next c.in-Some.ready c.in_ok-place.place c.turns.invariant.none c.in-Some.ensures.before c.in_ok-place.ensures.some.before;
    }

pub returns-in_err-place : goal.returns-in_err-place
returns-in_err-place c =
    subst (λ (o : Option ℕ). IsNextMarked c.args.core.now c.args.awake.now c.args.from o) (sym c.from_residual.ensures)
    (λ place p least up pick.
    none_passed c.args.core.now c.args.awake.now c.args.from c.turns.next c.in-Some.ready (place + 1) c.turns.invariant.none c.in-Some.ensures.before (λ k le lt. c.in_err-place.ensures.none k le) place p least (omega arith) up pick)

pub returns : goal.returns
returns c = λ place p least up pick.
    none_passed c.args.core.now c.args.awake.now c.args.from c.turns.next (place + 1) (place + 1) c.turns.invariant.none (λ at q le lt. c.in_default.ensures at q le) (λ k le lt. absurd (omega (arith, le, lt))) place p least (omega arith) up pick
