use Rattle.std.proofs.Common.{sym, ◌∙◌, List, ℕ}
use Rattle.std.specs.Str.{bytes_eq}
use Rattle.topology_drafts.proofs.Entering.{Key, position_map}
use Rattle.topology_drafts.proofs.directory.Names.index_of.Goals as goal

pub returns-clause-index : goal.returns-clause-index
returns-clause-index c = rw (← c.self.view_is) (c.get_index_of.ensures.index ∙ sym (position_map (λ (n : List ℕ). bytes_eq c.args.name.now n) (λ (k : Key). k.items) c.self.inside.set.keys))
