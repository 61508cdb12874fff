use Rattle.server.proofs.Names.{◌∙◌, ◌++◌, ap, arith, refl, Text}
use Rattle.server.proofs.Verdicts.{reported_nothing, reported_more, reported_all}
use Rattle.server.proofs.judging.judge_by.Goals as goal

pub loop-guarantee-init : goal.loop-guarantee-init
loop-guarantee-init c = record { reported = reported_nothing c.args.topology.now c.args.guarantees.now c.args.draft c.new-text.result.items c.new-text.ensures.items; number = refl }

pub loop-guarantee-preserved : goal.loop-guarantee-preserved
loop-guarantee-preserved c =
    let at = c.loop-guarantee in
    record {
      reported = reported_more c.args.topology.now c.args.guarantees.now at.guarantee-index c.guarantee-item.result c.args.draft at.file c.filed-file.result at.text.items c.put_line.new.text.items at.broken at.undecided c.is_no.result c.is_undecided.result at.number
          c.in_ok-verdict.verdict c.loop-guarantee-test.true c.guarantee-item.is at.invariant.reported c.in_ok-verdict.ensures at.invariant.number
          (c.in_ok-put_line.ensures.appended ∙ ap (λ (z : Text). at.text.items ++ z) c.in_ok-verdict_line.ensures) c.is_no.ensures c.is_undecided.ensures c.filed-file.ensures;
      number = (let n = at.invariant.number in omega (arith, n));
    }

pub returns : goal.returns
returns c = reported_all c.args.topology.now c.args.guarantees.now c.loop-guarantee.guarantee-index c.args.draft c.loop-guarantee.file c.loop-guarantee.text.items c.loop-guarantee.broken c.loop-guarantee.undecided c.status_of-status.result
    (omega arith) c.loop-guarantee.invariant.reported c.status_of-status.ensures
