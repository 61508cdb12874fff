use Rattle.state_routes.proofs.Leaving.{PutsAlternates}
use Rattle.state_routes.proofs.exits.put_alternates.Given as goal

abbrev pub invariant-loop-link : goal.invariant-loop-link
invariant-loop-link l = PutsAlternates l.alternates l.link-index l.fn.exits.items l.exits.items
