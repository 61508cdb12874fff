use Rattle.queue.proofs.Names.{◌≡◌, ◌∙◌, subst, is_ready, Line, ready_count}
use Rattle.queue.proofs.Places.{tally-filter}
use Rattle.queue.proofs.indexed.IndexedStore.ready.Goals as goal

pub returns : goal.returns
returns c = subst (λ (l : Line). c.self.inside.ready_count ≡ ready_count l.entries) c.self.view_is (c.self.invariant.1.ready_count ∙ tally-filter is_ready _)
