use Rattle.depot.proofs.Names.{◌≡◌, ◌++◌, ℕ, take, map, filter, is_ready, number_of, ready_in, Entry}
use Rattle.std.proofs.Common.{not}
use Rattle.notes.specs.Numbered.{numbered}
use Rattle.depot.proofs.Purged.{Purging}
use Rattle.depot.proofs.purging.take_ready.Given as goal

-- what was noted and what is still to be noted is the whole
abbrev pub invariant-taking : goal.invariant-taking
invariant-taking l = record {
  same : (n : ℕ) → numbered n l.note ≡ numbered n l.fn.note;
  purging : Purging l.fn.note (take l.fn.first l.fn.notes.items ++ map (λ (e : Entry). numbered (number_of e) l.fn.note) (filter is_ready l.fn.queue.entries)) (filter (λ (e : Entry). not (is_ready e)) l.fn.queue.entries) l.queue.entries l.place l.notes.items;
}

abbrev pub decreases-taking : goal.decreases-taking
decreases-taking l = ready_in l.queue.entries
