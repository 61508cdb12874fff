use Rattle.depot.proofs.Names.{◌∙◌, List, refl, ap, subst, arith, length, get_or_default, Line, entries_of, AreSignedBut, no_line}
use Rattle.depot.proofs.Signing.{lent_written}
use Rattle.depot.proofs.queues.Queues.queue_mut.Goals as goal

pub invariant_of-self-lent : goal.invariant_of-self-lent
invariant_of-self-lent c = λ w.
    lent_written c.args.index c.self.inside.queues.items c.move_loan.new.signs w
    (subst (λ (lines : List Line). AreSignedBut c.args.index (entries_of lines) c.move_loan.new.signs) c.deref.ensures.value c.move_loan.ensures)

pub returns : goal.returns
returns c = rw (← c.self.view_is) (
  (refl, λ w. refl),
  record {
    writes_back = tt;
    value = c.index_mut.ensures.value ∙ get_or_default c.self.inside.queues.items c.args.index c.index_mut.result.now no_line (omega (arith, c.requires, ap length c.self.view_is));
  },
)
