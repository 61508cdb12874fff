use Rattle.channels.proofs.Imports.{◌≡◌, ℕ, List, Option, Some, None, sym, subst, get_or, Open, Running, channel_in}
use Rattle.channels.specs.Waking.{AreWoken, AreWokenOn}
use Rattle.channels.proofs.Awake.{woken_at}
use Rattle.channels.proofs.running.RunningConnection.wake.Goals as goal

pub returns-in-Some-clause-awake : goal.returns-in-Some-clause-awake
returns-in-Some-clause-awake g c =
    let awake : ℕ → ℕ → ℕ → Type 0 = λ q. g.W.Wakes.is_awake c.wake_at.new.waker q c.args.connection in
    let h : ℕ = c.in-Some.number in
    subst (λ (o : Option ℕ). AreWokenOn awake (channel_in c.args.self.now) o) (sym c.in-Some.is)
    (woken_at awake (channel_in c.args.self.now) h
    (subst (λ (l : Running). (ch : Open) → channel_in l h ≡ Some ch → AreWoken (λ q. awake q h) ch) c.self.view_is
    (subst (λ (os : List (Option Open)). (ch : Open) → get_or os h None ≡ Some ch → AreWoken (λ q. awake q h) ch) c.deref_mut.ensures.value c.wake_at.ensures.awake)))

pub returns-in-None-clause-awake : goal.returns-in-None-clause-awake
returns-in-None-clause-awake g c =
    let awake : ℕ → ℕ → ℕ → Type 0 = λ q. g.W.Wakes.is_awake c.wake_channels.new.waker q c.args.connection in
    let all = subst (λ (l : Running). (h : ℕ) (ch : Open) → channel_in l h ≡ Some ch → AreWoken (λ q. awake q h) ch) c.self.view_is
    (subst (λ (os : List (Option Open)). (h : ℕ) (ch : Open) → get_or os h None ≡ Some ch → AreWoken (λ q. awake q h) ch) c.deref_mut-in-None.ensures.value c.wake_channels.ensures.awake) in
    subst (λ (o : Option ℕ). AreWokenOn awake (channel_in c.args.self.now) o) (sym c.in-None.is) (λ h ch its is. all h ch is)
