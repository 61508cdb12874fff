use Rattle.channels.proofs.Imports.{◌≡◌, ℕ, sym, subst, true, Some, IsIn, Open, AreNumbered, ConsumerCounts, TagsAndCountsAgree, may_of, Consumer}
use Rattle.channels.proofs.Awake.{all_woken}
use Rattle.channels.proofs.channels.Channel.wake.Goals as goal

pub invariant_of-self : goal.invariant_of-self
invariant_of-self g c =
    let i = c.self.inside in
    subst (λ (s : ConsumerCounts). TagsAndCountsAgree i.pending.last i.next_tag s i.pending.outstanding i.next_number i.most_given) (sym c.wake.ensures.same) c.self.invariant

pub returns-clause-awake : goal.returns-clause-awake
returns-clause-awake g c =
    let awake : ℕ → ℕ → Type 0 = λ q. g.W.Wakes.is_awake c.wake.new.waker q c.args.connection c.args.channel in
    all_woken awake c.args.self.now (subst (λ (ch : Open). AreNumbered ch.given.next_number ch.given.consumers) c.self.view_is c.self.invariant.2)
    (subst (λ (ch : Open). (k : Consumer) → IsIn k ch.given.consumers → may_of ch.given.limit ch.given.outstanding (Some k) ≡ true → awake k.queue k.number) c.self.view_is
    (c.wake.ensures.awake c.self.inside.pending.outstanding c.self.invariant.1))
