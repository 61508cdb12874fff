use Rattle.queue.proofs.Names.{◌≡◌, ◌∙◌, sym, subst, Option, None, find, option_map, is_ready, Entry, Line, parts}
use Rattle.queue.proofs.Joined.{joined_found, joined_none}
use Rattle.queue.proofs.Signed.{first_signed, none_signed}
use Rattle.queue.proofs.indexed.IndexedStore.first_ready.Goals as goal

pub returns-in-Some : goal.returns-in-Some
returns-in-Some c = subst (λ (l : Line). option_map (λ e. e.now) c.first_ready_at.result ≡ find is_ready l.entries) c.self.view_is
    (c.first_ready_at.ensures ∙ sym (joined_found is_ready (parts c.self.inside.chain.blocks.items) c.in-Some.place (first_signed (parts c.self.inside.chain.blocks.items) c.self.inside.chain.signs c.in-Some.place c.self.invariant.0.marked.signed c.in-Some.ensures.some)))

pub returns-in-None : goal.returns-in-None
returns-in-None c = subst (λ (l : Line). ◌≡◌ {A = Option Entry} None (find is_ready l.entries)) c.self.view_is
    (sym (joined_none is_ready (parts c.self.inside.chain.blocks.items) (none_signed (parts c.self.inside.chain.blocks.items) c.self.inside.chain.signs c.self.invariant.0.marked.signed c.in-None.ensures.none)))
