use Rattle.std.proofs.Common.{◌≡◌, List, ℕ, subst}
use Rattle.topology_drafts.specs.Naming.{EntersName}
use Rattle.topology_drafts.proofs.Entering.{held, enters}
use Rattle.topology_drafts.proofs.directory.Names.enter.Goals as goal

pub returns-clause-entered : goal.returns-clause-entered
returns-clause-entered c =
    let same : c.in_ok-key.key.items ≡ c.args.name.now = c.in_ok-key.ensures.items_if_clones_equal (λ x y e. e) in
    rw (← c.self.view_is)
    (subst (λ (n : List ℕ). EntersName n (held c.self.inside.set.keys) (held c.insert.new.self.keys) c.in_ok-new.new) same
    (enters c.in_ok-key.key c.self.inside.set.keys c.insert.new.self.keys c.in_ok-new.new c.in_ok-new.ensures.added c.in_ok-new.ensures.keys))
