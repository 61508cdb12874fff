use Rattle.channels.proofs.Imports.{◌≡◌, ◌∙◌, sym, subst, Open, AreNumbered, taker_among, consumer_at}
use Rattle.std.specs.Prelude.{option_map}
use Rattle.channels.proofs.Numbering.{tells, taker_left, none_left}
use Rattle.channels.proofs.channels.Channel.taker.Goals as goal

pub returns-then-not-has_tag_left : goal.returns-then-not-has_tag_left
returns-then-not-has_tag_left c = tells c.args.self.now c.args.number _ (subst (λ (ch : Open). AreNumbered ch.given.next_number ch.given.consumers) c.self.view_is c.self.invariant.2)
    (none_left c.args.self.now.given c.args.number (sym c.has_tag_left.ensures ∙ c.if-not-has_tag_left.true))

pub returns : goal.returns
returns c = tells c.args.self.now c.args.number _ (subst (λ (ch : Open). AreNumbered ch.given.next_number ch.given.consumers) c.self.view_is c.self.invariant.2)
    (taker_left c.args.self.now.given c.args.number _ (sym c.has_tag_left.ensures ∙ c.if-not-has_tag_left.false)
    (subst (λ (ch : Open). option_map (λ k. k.now) c.taker-found.result ≡ taker_among ch.given.limit ch.given.outstanding (consumer_at ch.given c.args.number)) c.self.view_is
    (c.taker-found.ensures c.self.inside.pending.outstanding c.self.invariant.1)))
