use Rattle.std.specs.Prelude.{◌-◌, vec_len, vec_capacity}
use Rattle.outputs.proofs.Filling.{Filling}
use Rattle.outputs.proofs.pool.fill_up.Given as goal

abbrev pub invariant-filling : goal.invariant-filling
invariant-filling l = Filling l.kind (vec_len l.fn.all) (vec_capacity l.fn.all) l.fn.all.items (vec_len l.all) (vec_capacity l.all) l.all.items

abbrev pub decreases-filling : goal.decreases-filling
decreases-filling l = l.wanted - vec_len l.all
