use Rattle.serving.proofs.Names.{◌∙◌, ◌<◌, ◌≤◌, ℕ, List, Bool, false, length, refl, sym, ap, subst, inl, inr, slice_set, arith, cases_eq, IsOther, Wakes}
use Rattle.serving.proofs.Fits.{slot_within}
use Rattle.serving.proofs.Quieting.{woken, none_woken}
use Rattle.serving.proofs.rounds.search.Goals as goal

pub loop-slot-init : goal.loop-slot-init
loop-slot-init c = record { kept = refl; so_far = λ i lt. absurd (omega (arith, lt)) }

pub loop-slot-preserved : goal.loop-slot-preserved
loop-slot-preserved c = record {
  kept = c.loop-slot.invariant.kept;
  so_far = λ i lt. elim (cases_eq i c.loop-slot.slot) [
    | inl e ↦ subst (λ (k : ℕ). IsOther c.args.c c.args.peers.now.slots k) (sym e) (c.holds.ensures.not_there c.if-holds.false)
    | inr ne ↦ let less : i < c.loop-slot.slot = omega (arith, lt, ne) in c.loop-slot.invariant.so_far i less
  ];
}

pub returns-then-holds : goal.returns-then-holds
returns-then-holds c = λ w fit.
    let ps = c.args.peers.now.slots in
    let i = c.loop-slot.slot in
    let at = c.holds.ensures.there c.if-holds.true in
    let now = c.mark.ensures ∙ ap (λ (ms : List Bool). slice_set ms i false) (c.learn.ensures ∙ c.loop-slot.invariant.kept) in
    subst (λ (ms : List Bool). Wakes c.args.c ps c.args.quiet.now ms) (sym now) (woken w ps i at.0 c.args.c c.args.quiet.now fit at.1 at.2)

pub returns : goal.returns
returns c = λ w fit.
    let ps = c.args.peers.now.slots in
    let inv = c.loop-slot.invariant in
    let others : (i : ℕ) → IsOther c.args.c ps i = λ i p at.
    let within : i < length ps = slot_within ps i p at in
    let all : length ps ≤ c.capacity-slot-end.result = c.capacity-slot-end.ensures.slots in
    let test = c.loop-slot-test.false in
    inv.so_far i (omega (arith, within, all, test)) p at in
    subst (λ (ms : List Bool). Wakes c.args.c ps c.args.quiet.now ms) (sym inv.kept) (none_woken ps c.args.c c.args.quiet.now others)
