use Rattle.depot.proofs.Names.{◌∙◌, ◌+◌, List, drop, ap, sym, arith, Entry, entries_of, taken}
use Rattle.depot.proofs.Changes.{entries_of-length}
use Rattle.depot.proofs.Moved.{taken_next}
use Rattle.depot.proofs.moving.take_over_in.Goals as goal

pub loop-from-preserved : goal.loop-from-preserved
loop-from-preserved c =
    let inv = c.loop-from.invariant in
    let done = c.exchange.ensures in
    let i = c.loop-from.from in
    let places = c.args.places.now in
    let olds = entries_of c.loop-from.old in
    let all = entries_of-length c.loop-from.old in
    let len = c.requires.len in
    let same = inv.old_len in
    let test = c.loop-from-test.true in
    record {
      whole =
          ap (λ (xs : List (List Entry)). taken (drop (i + 1) places) xs (entries_of c.exchange.new.queues)) done.rest
          ∙ ap (λ (xs : List (List Entry)). taken (drop (i + 1) places) (drop (i + 1) olds) xs) done.entries
          ∙ sym (taken_next places olds (entries_of c.loop-from.queues) i (omega (arith, test)) (omega (arith, all, len, same)))
          ∙ inv.whole;
      signed = λ lent was. done.signed lent (inv.signed lent was);
      room = done.room ∙ inv.room;
      len = done.len ∙ inv.len;
      old_len = done.old_len ∙ inv.old_len;
    }
