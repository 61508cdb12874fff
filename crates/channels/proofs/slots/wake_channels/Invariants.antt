use Rattle.channels.proofs.Imports.{◌≡◌, ◌<◌, ℕ, None, Some, slice_index_or, Open}
use Rattle.channels.specs.Waking.{AreWoken}
use Rattle.channels.proofs.slots.wake_channels.Given as goal

abbrev pub invariant-loop-at : goal.invariant-loop-at
invariant-loop-at g l = record {
  same : l.channels ≡ l.initial.channels;
  awake : (h : ℕ) (ch : Open) → h < l.at → slice_index_or l.initial.channels h None ≡ Some ch → AreWoken (λ q. g.W.Wakes.is_awake l.waker q l.connection h) ch;
  stay : (q c h n : ℕ) → g.W.Wakes.is_awake l.initial.waker q c h n → g.W.Wakes.is_awake l.waker q c h n;
  on : (start : g.row.W.Denot) → g.W.Wakes.goes_on start l.initial.waker → g.W.Wakes.goes_on start l.waker;
}
