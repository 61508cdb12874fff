use Rattle.std.proofs.Common.{length, map}
use Rattle.model.specs.Topology.{IsIn}
use Rattle.topology_drafts.proofs.directory.is_listed.Given as goal

abbrev pub invariant-names : goal.invariant-names
invariant-names g l = record {
  onward : IsIn l.name (map g.N.Named.named l.rest) → IsIn l.name (map g.N.Named.named l.fn.entries);
  back : IsIn l.name (map g.N.Named.named l.fn.entries) → IsIn l.name (map g.N.Named.named l.rest);
}

abbrev pub decreases-names : goal.decreases-names
decreases-names g l = length l.rest
