use Rattle.broker.proofs.Names.{◌∙◌, ◌+◌, ℕ, inl, inr, refl, subst, arith, leb_tells, IsPickFrom}
use Rattle.std.proofs.Common.{◌≡◌}
use Rattle.broker.proofs.Marked.{marked_by}
use Rattle.broker.proofs.Orders.{picks_since}
use Rattle.broker.proofs.rounds.queue_lines.first_between.Goals as goal

pub returns-then-queue-to-clause-none : goal.returns-then-queue-to-clause-none
returns-then-queue-to-clause-none c = λ e place p from lt pick.
    let past = c.if-queue-to.true in
    elim (leb_tells (place + 1) c.queues.next) [
      | inl a ↦ let le = a.1 in c.queues.invariant.none place p from (omega (arith, le)) pick
      | inr a ↦
          let gt = a.1 in
          c.in-Some.ensures.before place p (omega (arith, gt)) (omega (arith, lt, past)) (marked_by c.args.core.now c.queues.lines c.queues.awake place p c.queues.invariant.marked c.queues.invariant.kept pick) pick
    ]

pub queues-preserved : goal.queues-preserved
queues-preserved c =
    let least = c.queues.invariant.least in
    let next = c.in-Some.ensures.least in
    record {
      kept = c.pick_at.ensures.kept;
      marked = c.pick_at.ensures.marked;
      least = omega (arith, least, next);
      none = λ place p from lt pick. elim (leb_tells (place + 1) c.queues.next) [
        | inl a ↦ let le = a.1 in c.queues.invariant.none place p from (omega (arith, le)) pick
        | inr a ↦
            let gt = a.1 in
            elim (leb_tells (place + 1) c.in-Some.queue) [
              | inl b ↦
                  let before = b.1 in
                  c.in-Some.ensures.before place p (omega (arith, gt)) (omega (arith, before)) (marked_by c.args.core.now c.queues.lines c.queues.awake place p c.queues.invariant.marked c.queues.invariant.kept pick) pick
              | inr b ↦
                  let behind = b.1 in
                  let here : place ≡ c.in-Some.queue = omega (arith, lt, behind) in
                  c.in_default-pick_at.ensures.none refl p (subst (λ (n : ℕ). IsPickFrom c.args.core.now n p) here pick)
            ]
      ];
      same = λ at. c.in_default-pick_at.ensures.same refl at ∙ c.queues.invariant.same at;
    }

pub returns-clause-none : goal.returns-clause-none
returns-clause-none c = λ e place p from lt pick.
    elim (leb_tells (place + 1) c.queues.next) [
      | inl a ↦ let le = a.1 in c.queues.invariant.none place p from (omega (arith, le)) pick
      | inr a ↦ let gt = a.1 in c.in_default.ensures place p (omega (arith, gt)) (marked_by c.args.core.now c.queues.lines c.queues.awake place p c.queues.invariant.marked c.queues.invariant.kept pick) pick
    ]

pub returns-in-Some-pick_at-clause-passed : goal.returns-in-Some-pick_at-clause-passed
returns-in-Some-pick_at-clause-passed c = λ place p from lt pick.
    elim (leb_tells (place + 1) c.queues.next) [
      | inl a ↦ let le = a.1 in c.queues.invariant.none place p from (omega (arith, le)) pick
      | inr a ↦
          let gt = a.1 in
          c.in-Some.ensures.before place p (omega (arith, gt)) lt (marked_by c.args.core.now c.queues.lines c.queues.awake place p c.queues.invariant.marked c.queues.invariant.kept pick) pick
    ]

pub returns-in-Some-pick_at-clause-picked : goal.returns-in-Some-pick_at-clause-picked
returns-in-Some-pick_at-clause-picked c = picks_since c.args.core.now c.args.lines.now c.queues.lines c.pick_at.new.lines c.in-Some.queue c.in-Some-pick_at.pick c.queues.invariant.same c.in-Some-pick_at.ensures.picked
