use Rattle.channels.proofs.Imports.{◌≡◌, ℕ, consumers_of, counts_of}
use Rattle.channels.proofs.Awake.{AreWokenBelow}
use Rattle.channels.proofs.waking.wake_each.Given as goal

-- those before the index are awake, if they may take one more message
abbrev pub invariant-loop-counted : goal.invariant-loop-counted
invariant-loop-counted g l = record {
  consumers : consumers_of l.consumers ≡ consumers_of l.initial.consumers;
  held : counts_of l.consumers ≡ counts_of l.initial.consumers;
  awake : AreWokenBelow l.limit l.given (λ q. g.W.Wakes.is_awake l.waker q l.connection l.channel) l.initial.consumers l.counted-index;
  stay : (q c h n : ℕ) → g.W.Wakes.is_awake l.initial.waker q c h n → g.W.Wakes.is_awake l.waker q c h n;
  on : (start : g.row.W.Denot) → g.W.Wakes.goes_on start l.initial.waker → g.W.Wakes.goes_on start l.waker;
}
