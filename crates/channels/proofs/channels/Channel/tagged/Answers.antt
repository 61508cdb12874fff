use Rattle.channels.proofs.Imports.{subst, find, Open, AreNumbered, TagsDiffer, is_named}
use Rattle.channels.specs.Seats.{ReturnsSeat}
use Rattle.channels.proofs.Tagging.{tagged, untagged}
use Rattle.channels.proofs.channels.Channel.tagged.Goals as goal

pub returns-clause-some : goal.returns-clause-some
returns-clause-some c = tagged c.args.self.now c.args.tag.now c.tagged.result
    (subst (λ (ch : Open). AreNumbered ch.given.next_number ch.given.consumers) c.self.view_is c.self.invariant.2)
    (subst (λ (ch : Open). TagsDiffer ch.given.consumers) c.self.view_is c.self.invariant.4)
    (subst (λ (ch : Open). ReturnsSeat (find (is_named c.args.tag.now) ch.given.consumers) c.tagged.result) c.self.view_is c.tagged.ensures)

pub returns-clause-none : goal.returns-clause-none
returns-clause-none c = untagged c.args.self.now c.args.tag.now c.tagged.result
    (subst (λ (ch : Open). ReturnsSeat (find (is_named c.args.tag.now) ch.given.consumers) c.tagged.result) c.self.view_is c.tagged.ensures)
