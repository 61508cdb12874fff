use Rattle.topology_drafts.proofs.Entering.{is_held}
use Rattle.topology_drafts.proofs.directory.Names.has.Goals as goal

pub returns : goal.returns
returns c = rw (c.contains.ensures, ← c.self.view_is) (is_held c.args.name.now c.self.inside.set.keys)
