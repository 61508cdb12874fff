use Rattle.channels.proofs.Imports.{◌≡◌, ◌<◌, ◌∙◌, ℕ, refl, arith, length, length-map, ap, List, Consumer, CountedConsumer}
use Rattle.channels.proofs.Seating.{set_consumers, set_counts}
use Rattle.channels.proofs.Awake.{woken_next}
use Rattle.channels.proofs.waking.wake_each.Goals as goal

pub loop-counted-init : goal.loop-counted-init
loop-counted-init g c = record {
  consumers = refl;
  held = refl;
  awake = λ k d less within. absurd (omega (arith, less));
  stay = λ q d h n awake. awake;
  on = λ start on. on;
}

pub loop-counted-preserved : goal.loop-counted-preserved
loop-counted-preserved g c =
    let i = c.loop-counted.counted-index in
    let was = c.loop-counted.invariant in
    let d : CountedConsumer = c.counted-item.result in
    let now : List CountedConsumer = c.loop-counted.consumers in
    let same = ap (λ (ks : List Consumer). length ks) was.consumers in
    let a = length-map now (λ (s : CountedConsumer). s.consumer) in
    let b = length-map c.args.consumers.now (λ (s : CountedConsumer). s.consumer) in
    let t = c.loop-counted-test.true in
    let within : i < length now = omega (arith, same, a, b, t) in
    record {
      consumers = set_consumers now i d c.wake_one.new.counted c.wake_one.ensures.consumer ∙ was.consumers;
      held = set_counts now i d c.wake_one.new.counted c.wake_one.ensures.held ∙ was.held;
      awake = woken_next c.args.limit c.args.given
          (λ q. g.W.Wakes.is_awake c.loop-counted.waker q c.args.connection c.args.channel)
          (λ q. g.W.Wakes.is_awake c.wake_one.new.waker q c.args.connection c.args.channel)
          c.args.consumers.now now i d was.consumers was.held within
          (λ q n. c.wake_one.ensures.stay q c.args.connection c.args.channel n) c.wake_one.ensures.awake was.awake;
      stay = λ q h l n awake. c.wake_one.ensures.stay q h l n (was.stay q h l n awake);
      on = λ start on. c.wake_one.ensures.on start (was.on start on);
    }

pub returns-clause-awake : goal.returns-clause-awake
returns-clause-awake g c = λ k d within. c.loop-counted.invariant.awake k d (let past = c.loop-counted-test.false in omega (arith, within, past)) within
