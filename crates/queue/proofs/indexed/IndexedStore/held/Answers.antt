use Rattle.queue.proofs.Names.{◌≡◌, ◌∙◌, sym, subst, Option, None, find, option_map, Entry, is_held_as, Line, parts}
use Rattle.queue.proofs.Joined.{joined_found}
use Rattle.queue.proofs.Calls.{nothing_found, held_first}
use Rattle.queue.proofs.indexed.IndexedStore.held.Goals as goal

pub returns-in-None : goal.returns-in-None
returns-in-None c =
    subst (λ (l : Line). ◌≡◌ {A = Option Entry} None (find (is_held_as c.args.holder.now) l.entries)) c.self.view_is
    (sym (nothing_found (is_held_as c.args.holder.now) (parts c.self.inside.chain.blocks.items) c.in-None.ensures.none))

pub returns-in-Some : goal.returns-in-Some
returns-in-Some c =
    subst (λ (l : Line). option_map (λ e. e.now) c.held_at.result ≡ find (is_held_as c.args.holder.now) l.entries) c.self.view_is
    (c.held_at.ensures ∙ sym (joined_found (is_held_as c.args.holder.now) (parts c.self.inside.chain.blocks.items) c.in-Some.spot.block (held_first (parts c.self.inside.chain.blocks.items) c.self.inside.ready_count c.self.inside.live c.self.inside.ready_bytes c.in-Some.spot.block c.args.holder.now c.self.invariant.1 c.in-Some.ensures.some)))
