use Rattle.broker.proofs.Names.{◌∙◌, ◌+◌, ℕ, inl, inr, ap, sym, subst, arith, leb_tells, filter, Queue, Pick, line_of, order, bit_of, remains, IsAsleep}
use Rattle.std.proofs.Common.{◌≡◌, ◌⊎◌}
use Rattle.broker.proofs.rounds.queue_lines.sweep_named.Goals as goal

pub named-preserved : goal.named-preserved
named-preserved c =
    let who = c.args.who in
    let old = c.args.lines.now in
    let mid = c.named.lines in
    let new = c.sweep_at.new.lines in
    let queue = c.in-Some.queue in
    let least = c.in-Some.ensures.some.least in
    let size = c.clear.ensures.size in
    let was = c.named.invariant.size in
    record {
      size = omega (arith, size, was);
      marked = c.sweep_at.ensures.marked;
      asleep = λ place p i. elim (leb_tells place queue) [
        | inl a ↦ elim (leb_tells queue place) [
          | inl b ↦
              let le = a.1 in
              let ge = b.1 in
              let here : place ≡ queue = omega (arith, le, ge) in
              absurd (c.sweep_at.ensures.awake p (subst (λ (n : ℕ). IsAsleep (line_of new n) p) here i))
          | inr b ↦ let less = b.1 in c.named.invariant.asleep place p (subst (λ (l : Queue Pick). IsAsleep l p) (c.sweep_at.ensures.others place (λ same. omega (arith, same, less))) i)
        ]
        | inr a ↦ let gt = a.1 in c.named.invariant.asleep place p (subst (λ (l : Queue Pick). IsAsleep l p) (c.sweep_at.ensures.others place (λ same. omega (arith, same, gt))) i)
      ];
      left = λ i lt. elim (leb_tells (i + 1) queue) [
        | inl a ↦
            let less = a.1 in
            let stays : line_of new i ≡ line_of mid i = c.sweep_at.ensures.others i (λ same. omega (arith, same, less)) in
            subst (λ (l : Queue Pick). (order l ≡ filter (remains who) (order (line_of old i))) ⊎ ((bit_of c.args.named.now i ≡ 1 → ⊥) × (order l ≡ order (line_of old i)))) (sym stays)
            (elim (leb_tells (i + 1) c.named.next) [
              | inl b ↦ let before = b.1 in c.named.invariant.left i (omega (arith, before))
              | inr b ↦
                  let behind = b.1 in
                  let none = c.in-Some.ensures.some.before i (omega (arith, behind)) (omega (arith, less)) in
                  let same = c.named.invariant.behind i (omega (arith, behind)) in
                  inr (λ one. omega (arith, none, same, one), ap order (c.named.invariant.same i (omega (arith, behind))))
            ])
        | inr a ↦
            let gt = a.1 in
            let here : i ≡ queue = omega (arith, lt, gt) in
            inl (subst (λ (n : ℕ). order (line_of new n) ≡ filter (remains who) (order (line_of old n))) (sym here)
            (subst (λ (l : Queue Pick). order (line_of new queue) ≡ filter (remains who) (order l)) (c.named.invariant.same queue least) c.sweep_at.ensures.here))
      ];
      behind = λ i le. c.clear.ensures.cleared.others i (λ same. omega (arith, same, le)) ∙ c.named.invariant.behind i (omega (arith, le, least));
      same = λ i le. c.sweep_at.ensures.others i (λ same. omega (arith, same, le)) ∙ c.named.invariant.same i (omega (arith, le, least));
    }
