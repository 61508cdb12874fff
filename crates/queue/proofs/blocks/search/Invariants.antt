use Rattle.queue.proofs.Names.{◌≡◌, ℕ, ◌<◌, [], get_or, find, None, is_held_as, parts}
use Rattle.queue.proofs.blocks.search.Given as goal

-- in none of the blocks passed is a message held so
abbrev pub invariant-loop-block : goal.invariant-loop-block
invariant-loop-block l = (k : ℕ) → k < l.block → find (is_held_as l.holder) (get_or (parts l.blocks) k []) ≡ None
