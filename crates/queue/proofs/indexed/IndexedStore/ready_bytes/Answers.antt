use Rattle.queue.proofs.Names.{◌≡◌, ◌∙◌, subst, ready_bytes, Line, parts, joined}
use Rattle.queue.proofs.Bytes.{total-ready}
use Rattle.queue.proofs.indexed.IndexedStore.ready_bytes.Goals as goal

pub returns : goal.returns
returns c = subst (λ (l : Line). c.self.inside.ready_bytes ≡ ready_bytes l.entries) c.self.view_is (c.self.invariant.1.sum ∙ total-ready (joined (parts c.self.inside.chain.blocks.items)))
