use Rattle.broker.proofs.Names.{◌∙◌, ◌<◌, ℕ, length, get_or, inl, inr, sym, ap, subst, arith, get_or-set_other, place_now, same_default, Queue, Pick, line_of, IndicesDiffer}
use Rattle.std.proofs.Common.{◌≡◌}
use Rattle.broker.proofs.Marked.{no_line}
use Rattle.broker.proofs.Moving.{one_moved}
use Rattle.broker.proofs.rounds.queue_lines.move_lines.Goals as goal

pub loop-from-preserved : goal.loop-from-preserved
loop-from-preserved c =
    let places = c.args.places.now in
    let olds = c.args.old.now in
    let from = c.loop-from.from in
    let old = c.loop-from.old in
    let mid = c.loop-from.lines in
    let new = c.move_line.new.lines in
    let one = c.index-old-from.result in
    let lt = c.loop-from-test.true in
    let len = c.loop-from.auto.lines in
    let old_len = c.loop-from.auto.old in
    let same_len = c.requires.len in
    let now : get_or places from 0 ≡ place_now places from = same_default places from 0 from lt in
    let line : line_of olds from ≡ get_or old from one = sym (c.loop-from.invariant.behind from (omega arith)) ∙ same_default old from no_line one (omega (arith, lt, old_len, same_len)) in
    let here : place_now places from < length mid → (line_of new (place_now places from)).order ≡ (line_of olds from).order =
    λ there.
    subst (λ (n : ℕ). (line_of new n).order ≡ (line_of olds from).order) now (subst (λ (l : Queue Pick). (line_of new (get_or places from 0)).order ≡ l.order) (sym line) (c.move_line.ensures.moved (omega (arith, now, there)))) in
    record {
      behind = λ i le. get_or-set_other old from i c.move_line.new.line no_line (λ same. omega (arith, same, le)) ∙ c.loop-from.invariant.behind i (omega (arith, le));
      moved = λ i le there.
          one_moved places olds mid new from lt (subst (IndicesDiffer places) (sym len) c.requires.distinct) (λ j less at. c.loop-from.invariant.moved j less (omega (arith, at, len))) here
          (λ j far. c.move_line.ensures.others j (λ same. far (same ∙ now))) i le (omega (arith, there, len));
      came = λ i. elim (c.move_line.ensures.came i) [
        | inl same ↦ elim (c.loop-from.invariant.came i) [
          | inl was ↦ inl (same ∙ was)
          | inr its ↦ inr (record { from = its.from; within = its.within; there = its.there; same = same ∙ its.same })
        ]
        | inr its ↦ inr (record { from = from; within = lt; there = sym now ∙ sym its.0; same = its.1 ∙ ap (λ (l : Queue Pick). l.order) (sym line) })
      ];
      marked = c.move_line.ensures.marked;
    }
