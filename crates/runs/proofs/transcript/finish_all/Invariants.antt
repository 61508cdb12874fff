use Rattle.runs.proofs.Names.{◌≡◌, ℕ, ◌+◌, ◌<◌, ◌≤◌, slice_get, Shown, finished}
use Rattle.std.proofs.Common.{Some}
use Rattle.runs.proofs.transcript.finish_all.Given as goal

abbrev pub invariant-loop-i : goal.invariant-loop-i
invariant-loop-i g l = record {
  before : (k : ℕ) (s : Shown) → k < l.i → slice_get l.initial.connections k ≡ Some s → slice_get l.connections k ≡ Some (finished (g.M.Machine.world l.machine) (k + 1) s);
  after : (k : ℕ) → l.i ≤ k → slice_get l.connections k ≡ slice_get l.initial.connections k;
}
