use Rattle.definitions.proofs.Imports.{arith}
use Rattle.definitions.proofs.Hashing.{one_more, all_read}
use Rattle.definitions.proofs.stating.users_of.Goals as goal

pub loop-entry-preserved : goal.loop-entry-preserved
loop-entry-preserved c =
    rw c.in_ok-push-in-Some.ensures.items
    (one_more c.args.entries.now c.loop-entry.entry-index c.entry-item.result c.loop-entry.made.items c.in_ok-hash.field-0 _ c.in-Some.hash (omega arith) c.entry-item.is c.in_ok-hash.ensures c.in-Some.is c.in_ok-clone-in-Some.ensures
    c.loop-entry.invariant)

pub returns : goal.returns
returns c = all_read c.args.entries.now c.loop-entry.entry-index c.loop-entry.made.items (omega arith) c.loop-entry.invariant
