use Rattle.std.proofs.Common.{length, map}
use Rattle.model.specs.Topology.{AreDistinct}
use Rattle.topology_drafts.proofs.directory.are_distinct.Given as goal

abbrev pub invariant-names : goal.invariant-names
invariant-names g l = record {
  onward : AreDistinct (map g.N.Named.named l.rest) → AreDistinct (map g.N.Named.named l.fn.entries);
  back : AreDistinct (map g.N.Named.named l.fn.entries) → AreDistinct (map g.N.Named.named l.rest);
}

abbrev pub decreases-names : goal.decreases-names
decreases-names g l = length l.rest
