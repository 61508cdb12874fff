use Rattle.topic_match.proofs.Names.{◌∷◌, ◌++◌, [], ap, arith, length, subst, sym, Token, AreCounts}
use Rattle.std.proofs.lemmas.List.{take_at}
use Rattle.std.proofs.lemmas.Result.{IfOk-weaker}
use Rattle.topic_match.proofs.Counting.{counts_moved}
use Rattle.topic_match.proofs.counts.counts_after.Goals as goal

pub returns-then-is_one : goal.returns-then-is_one
returns-then-is_one c = IfOk-weaker c.moved_on.result _ _ (λ after is b a.
    subst (λ (t : Token). AreCounts (b ++ t ∷ []) c.args.words.now after.items) (sym (c.is_one.ensures.0 c.if-is_one.true))
    (counts_moved b c.args.words.now c.args.before.now after.items is a)) c.moved_on.ensures

pub returns : goal.returns
returns c = λ b a.
    let m = c.write_after.ensures b a in
    let size = ap length c.in_ok-after.ensures.ok in
    let long = m.size in
    rw (take_at c.write_after.new.after _ (length c.in_ok-after.after.items) (omega (arith, size, long, c.requires))) m
