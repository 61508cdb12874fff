use Rattle.channels.proofs.Imports.{◌≡◌, ℕ, ◌<◌, ◌≤◌, true, list_any, is_named, server_name}
use Rattle.channels.proofs.names.next_name.Given as goal

-- those before are in use
abbrev pub invariant-loop-number : goal.invariant-loop-number
invariant-loop-number l = (k : ℕ) → l.from ≤ k → k < l.number → list_any (is_named (server_name k)) l.consumers.consumers ≡ true
