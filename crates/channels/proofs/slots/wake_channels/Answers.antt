use Rattle.channels.proofs.Imports.{◌≡◌, ◌<◌, ◌∙◌, ℕ, List, Option, Some, refl, ap, sym, subst, arith, length, get_or, set, Open}
use Rattle.std.proofs.lemmas.List.{set-get_or}
use Rattle.channels.specs.Waking.{AreWoken}
use Rattle.channels.proofs.Awake.{woken_channels}
use Rattle.channels.proofs.Putting.{within}
use Rattle.channels.proofs.slots.wake_channels.Goals as goal

pub loop-at-init : goal.loop-at-init
loop-at-init g c = record {
  same = refl;
  awake = λ h ch less is. absurd (omega (arith, less));
  stay = λ q d h n awake. awake;
  on = λ start on. on;
}

pub loop-at-preserved : goal.loop-at-preserved
loop-at-preserved g c =
    let i : ℕ = c.loop-at.at in
    let was = c.loop-at.invariant in
    let d : Option Open = c.index-channels-at.result in
    record {
      same = ap (λ (o : Option Open). set c.loop-at.channels i o) c.wake_in.ensures.same ∙ set-get_or c.loop-at.channels i d ∙ was.same;
      awake = woken_channels (λ q. g.W.Wakes.is_awake c.loop-at.waker q c.args.connection) (λ q. g.W.Wakes.is_awake c.wake_in.new.waker q c.args.connection) c.args.channels.now i d
          (let t = c.loop-at-test.true in omega (arith, t)) (λ q h n. c.wake_in.ensures.stay q c.args.connection h n)
          (subst (λ (xs : List (Option Open)). (ch : Open) → get_or xs i d ≡ Some ch → AreWoken (λ q. g.W.Wakes.is_awake c.wake_in.new.waker q c.args.connection i) ch) was.same c.wake_in.ensures.awake)
          was.awake;
      stay = λ q e h n awake. c.wake_in.ensures.stay q e h n (was.stay q e h n awake);
      on = λ start on. c.wake_in.ensures.on start (was.on start on);
    }

pub returns-clause-awake : goal.returns-clause-awake
returns-clause-awake g c = λ h ch is. c.loop-at.invariant.awake h ch (let lt = within c.args.channels.now h ch is in let past = c.loop-at-test.false in omega (arith, lt, past)) is
