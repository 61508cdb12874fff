use Rattle.depot.proofs.Names.{List, ap, sym, subst, arith, length, take_at, Line, entries_of, AreSignedBut}
use Rattle.depot.proofs.queues.Queues.take_over.Goals as goal

pub invariant_of-self : goal.invariant_of-self
invariant_of-self c =
    let lent = c.self.inside.lent in
    let long = ap length c.deref_mut.ensures.value in
    let same = c.take_over_in.ensures.len in
    let len = c.deref_mut.ensures.len in
    let was = subst (λ (lines : List Line). AreSignedBut lent (entries_of lines) c.self.inside.signs) (sym c.deref_mut.ensures.value) c.self.invariant in
    rw (take_at c.take_over_in.new.queues _ c.self.inside.queues.len (omega (arith, long, same, len))) (c.take_over_in.ensures.signed lent was)
