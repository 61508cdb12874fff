use Rattle.std.proofs.Common.{map, take}
use Rattle.topology_drafts.specs.Naming.{AreNames}
use Rattle.topology_drafts.proofs.directory.Names.of.Given as goal

abbrev pub invariant-loop-entry : goal.invariant-loop-entry
invariant-loop-entry g l = AreNames l.names (map g.N.Named.named (take l.entry-index l.entries))
