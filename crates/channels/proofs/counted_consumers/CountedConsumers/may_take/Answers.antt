use Rattle.channels.proofs.Imports.{◌≡◌, ◌∙◌, ap, subst, List, find, ConsumerCounts, CountsAgree, is_numbered, may_held, may_of, Consumer, CountedConsumer}
use Rattle.std.specs.Prelude.{◌==◌}
use Rattle.channels.proofs.Counting.{may_kept}
use Rattle.channels.proofs.counted_consumers.CountedConsumers.may_take.Goals as goal

pub returns : goal.returns
returns c given = subst (λ (s : ConsumerCounts). CountsAgree s given → c.may_one.result ≡ may_of c.args.limit given (find (λ (x : Consumer). x.number == c.args.number) s.consumers)) c.self.view_is
    (λ k. c.may_one.ensures ∙ ap (λ (ss : List CountedConsumer). may_held c.args.limit c.self.inside.given (find (is_numbered c.args.number) ss)) c.deref.ensures.value
    ∙ may_kept c.args.limit c.self.inside.given c.args.number c.self.inside.consumers.items given k.each k.all)
