-- What is left is values or pairs exactly where the whole is.
use Rattle.field_table.proofs.Names.{sym, subst, HasValues, HasPairs}
use Rattle.field_table.proofs.Firsts.{no_leaf, first_is, means_some, unsound, values_end, values_onto, values_back, no_values_left, pairs_end, pairs_onto, pairs_back, no_pairs_left, is_nil, not_nil, when_true, when_false}
use Rattle.field_table.proofs.checking.+check.Goals as goal

pub value_end-returns-then-is_sound : goal.value_end-returns-then-is_sound
value_end-returns-then-is_sound t c =
    let m = means_some c.args.depth c.in-Some.leaf (when_true _ _ _ c.if-is_sound.true c.is_sound.ensures) in
    (m.0, first_is c.args.depth c.args.bytes.now c.in-Some.rest.now c.in-Some.leaf m.0 (λ i. (c.type_inv.bytes i).fits) (sym c.in-Some.ensures) m.1)

pub value_end-returns-else-is_sound : goal.value_end-returns-else-is_sound
value_end-returns-else-is_sound t c =
    unsound c.args.depth c.args.bytes.now c.in-Some.rest.now c.in-Some.leaf (sym c.in-Some.ensures) (when_false _ _ _ c.if-is_sound.false c.is_sound.ensures)

pub are_values-returns : goal.are_values-returns
are_values-returns t c = c.values.invariant.0 (subst (HasValues c.args.depth) (sym (is_nil c.values.rest.now (sym c.values-test.ensures))) (values_end c.args.depth))

pub are_values-returns-in-None : goal.are_values-returns-in-None
are_values-returns-in-None t c = λ h. no_values_left c.args.depth c.values.rest.now c.in-None.ensures (not_nil c.values.rest.now (sym c.values-test.ensures)) (c.values.invariant.1 h)

pub are_values-values-preserved : goal.are_values-values-preserved
are_values-values-preserved t c =
    let f = c.in-Some.ensures in (
      λ h. c.values.invariant.0 (values_onto c.args.depth c.values.rest.now f.0 c.in-Some.after.now f.1 h),
      λ h. values_back c.args.depth c.values.rest.now f.0 c.in-Some.after.now f.1 (c.values.invariant.1 h),
    )

pub are_pairs-returns : goal.are_pairs-returns
are_pairs-returns t c = c.pairs.invariant.0 (subst (HasPairs c.args.depth) (sym (is_nil c.pairs.rest.now (sym c.pairs-test.ensures))) (pairs_end c.args.depth))

pub are_pairs-returns-in-None : goal.are_pairs-returns-in-None
are_pairs-returns-in-None t c = λ h. no_pairs_left c.args.depth c.pairs.rest.now c.in-None.ensures (not_nil c.pairs.rest.now (sym c.pairs-test.ensures)) (c.pairs.invariant.1 h)

pub are_pairs-pairs-preserved : goal.are_pairs-pairs-preserved
are_pairs-pairs-preserved t c =
    let f = c.in-Some.ensures in (
      λ h. c.pairs.invariant.0 (pairs_onto c.args.depth c.pairs.rest.now _ f.0 c.in-Some.after.now f.1 h),
      λ h. pairs_back c.args.depth c.pairs.rest.now _ f.0 c.in-Some.after.now f.1 (c.pairs.invariant.1 h),
    )

pub value_end-returns-in_default : goal.value_end-returns-in_default
value_end-returns-in_default t c = no_leaf c.args.depth c.args.bytes.now (sym c.in_default.ensures)
