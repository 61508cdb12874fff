use Rattle.serving.proofs.Names.{◌∙◌, ℕ, inl, inr, sym, ap, arith, cases_eq, cases_lt, false, false≢true, slice_index_or, IsMarkedAt}
use Rattle.serving.proofs.Fullness.{marked_within}
use Rattle.serving.proofs.rounds.next_settled.Goals as goal

pub loop-slot-init : goal.loop-slot-init
loop-slot-init c =
    let next = c.next_loud-slot.ensures in
    record { least = next.least; marked = λ i ge lt. inl (next.before i ge lt) }

pub loop-slot-preserved : goal.loop-slot-preserved
loop-slot-preserved c =
    let inv = c.loop-slot.invariant in
    let behind = c.next_loud.ensures in
    let next = c.next_loud-slot-in-loop-slot.ensures in
    let first = behind.least in
    let second = next.least in
    let was = inv.least in
    record {
      least = omega (arith, was, first, second);
      marked = λ i ge lt. elim (cases_lt i c.loop-slot.slot) [
        | inl less ↦ inv.marked i ge less
        | inr from ↦ elim (cases_lt i c.next_loud.result) [
          | inl near ↦ inr (behind.before i from near)
          | inr far ↦ inl (next.before i far lt)
        ]
      ];
    }

pub loop-slot-smaller : goal.loop-slot-smaller
loop-slot-smaller c =
    let m : IsMarkedAt c.args.full.now c.loop-slot.slot = sym c.contains.ensures ∙ c.loop-slot-test.true in
    let within = marked_within c.args.full.now c.loop-slot.slot m in
    let behind = c.next_loud.ensures in
    let first = behind.least in
    let second = c.next_loud-slot-in-loop-slot.ensures.least in
    elim (cases_eq c.next_loud.result c.loop-slot.slot) [
      | inl e ↦ absurd (false≢true (sym behind.loud ∙ ap (λ (k : ℕ). slice_index_or c.args.full.now k false) e ∙ m))
      | inr ne ↦ omega (arith, within, first, second, ne)
    ]
