use Rattle.channels.proofs.Imports.{◌≡◌, map, take, waiting, counted_out}
use Rattle.channels.proofs.consumers.count_each_out.Given as goal

-- those that wait before the index are no longer counted
abbrev pub invariant-loop-one : goal.invariant-loop-one
invariant-loop-one l = l.consumers ≡ map (counted_out (waiting (take l.one-index l.gone))) l.fn.consumers
