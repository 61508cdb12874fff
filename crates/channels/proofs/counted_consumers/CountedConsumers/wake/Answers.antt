use Rattle.channels.proofs.Imports.{◌≡◌, ◌∙◌, ℕ, subst, sym, Some, true, List, IsIn, ConsumerCounts, CountsAgree, consumers_of, counts_of, may_of, Consumer}
use Rattle.channels.proofs.Awake.{woken_in}
use Rattle.channels.proofs.counted_consumers.CountedConsumers.wake.Goals as goal

pub returns-clause-awake : goal.returns-clause-awake
returns-clause-awake g c given agree k i may =
    let was : CountsAgree (record { consumers = consumers_of c.self.inside.consumers.items; held = counts_of c.self.inside.consumers.items; given = c.self.inside.given; room = _ }) given = subst (λ (s : ConsumerCounts). CountsAgree s given) (sym c.self.view_is) agree in
    woken_in c.args.limit c.self.inside.given (λ q. g.W.Wakes.is_awake c.wake_all.new.waker q c.args.connection c.args.channel) given c.self.inside.consumers.items was.each was.all
    c.wake_all.ensures.awake k (subst (λ (s : ConsumerCounts). IsIn k s.consumers) (sym c.self.view_is) i) may
