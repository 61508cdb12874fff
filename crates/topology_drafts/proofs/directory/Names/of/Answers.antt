use Rattle.std.proofs.Common.{arith}
use Rattle.topology_drafts.proofs.Entering.{names_more, names_repeated}
use Rattle.topology_drafts.proofs.directory.Names.of.Goals as goal

pub returns-then-not-is_new : goal.returns-then-not-is_new
returns-then-not-is_new g c =
    names_repeated g.N.Named.named c.args.entries.now c.loop-entry.entry-index c.entry-item.result c.loop-entry.names c.enter.new.self (omega arith) c.entry-item.is
    (rw (← c.name.ensures, ← c.if-not-is_new.true) c.in_ok-is_new.ensures.entered) c.loop-entry.invariant

pub loop-entry-preserved : goal.loop-entry-preserved
loop-entry-preserved g c =
    names_more g.N.Named.named c.args.entries.now c.loop-entry.entry-index c.entry-item.result c.loop-entry.names c.enter.new.self (omega arith) c.entry-item.is
    (rw (← c.name.ensures, ← c.if-not-is_new.false) c.in_ok-is_new.ensures.entered) c.loop-entry.invariant
