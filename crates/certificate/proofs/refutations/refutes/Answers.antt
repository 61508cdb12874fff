use Rattle.certificate.proofs.Names.{subst, ◌∙◌, IfOk-weaker, Text, CoversKey}
use Rattle.certificate.proofs.Refuting.{refuted}
use Rattle.certificate.proofs.refutations.refutes.Goals as goal

pub returns-clause-exact : goal.returns-clause-exact
returns-clause-exact c =
    let covered : CoversKey c.args.guarantee.now c.args.refutation.now.key = subst (λ (k : Text). CoversKey c.args.guarantee.now k) (c.as_bytes.ensures ∙ c.key.ensures) (c.in_ok-covers.ensures.0 c.if-not-branch.false).1 in
    IfOk-weaker c.breaks.result _ _
    (λ y d. refuted c.args.topology.now c.args.guarantee.now c.args.refutation.now y (c.may_refute.ensures.0 c.if-not-may_refute.false) covered d)
    c.breaks.ensures
