use Rattle.commands.proofs.Names.{refl, sym, subst, None, Option, refusal_on, refusal_on_zero, Answers}
use Rattle.model.specs.Step.{Refusal}
use Rattle.commands.proofs.Judging.{zero_is, number_passed}
use Rattle.commands.proofs.Answering.{left_answers, left_addressed, left_quiet}
use Rattle.commands.proofs.commands.on_none.Goals as goal

pub returns-then-number-eq0-clause-answers : goal.returns-then-number-eq0-clause-answers
returns-then-number-eq0-clause-answers c = λ t b new place conn content same.
    subst (λ (r : Option Refusal). Answers r t b place c.args.number None c.args.method.now content c.left.result new) (sym (zero_is t b conn c.args.number c.args.method.now None refl c.if-number-eq0.true))
    (left_answers (refusal_on_zero c.args.method.now) t b place c.args.number None c.args.method.now content new c.on_zero.result c.left.result c.left.ensures (c.on_zero.ensures t None))

pub returns-then-number-eq0-clause-addressed : goal.returns-then-number-eq0-clause-addressed
returns-then-number-eq0-clause-addressed c = λ place. left_addressed place c.on_zero.result c.left.result c.left.ensures

pub returns-then-number-eq0-clause-quiet : goal.returns-then-number-eq0-clause-quiet
returns-then-number-eq0-clause-quiet c = left_quiet c.on_zero.result c.left.result c.left.ensures

pub returns-clause-answers : goal.returns-clause-answers
returns-clause-answers c = λ t b new place conn content same.
    subst (λ (r : Option Refusal). Answers r t b place c.args.number None c.args.method.now content c.left-2.result new) (sym (number_passed t b conn c.args.channel_max c.args.number c.args.method.now None refl c.if-number-eq0.false same (sym c.in_ok-check_number.ensures)))
    (left_answers (refusal_on t b None c.args.method.now) t b place c.args.number None c.args.method.now content new c.on_closed.result c.left-2.result c.left-2.ensures (c.on_closed.ensures t b))

pub returns-clause-addressed : goal.returns-clause-addressed
returns-clause-addressed c = λ place. left_addressed place c.on_closed.result c.left-2.result c.left-2.ensures

pub returns-clause-quiet : goal.returns-clause-quiet
returns-clause-quiet c = left_quiet c.on_closed.result c.left-2.result c.left-2.ensures
