use Rattle.channels.proofs.Imports.{◌∙◌, refl, sym, subst, Some, Text, AddsConsumer, JudgesNamed, CanMakeConsumer, Open, IsConsumerMade, MakesConsumer}
use Rattle.std.proofs.lemmas.Result.{err_from_is_err_and}
use Rattle.channels.proofs.Making.{named_free, named_refused, named_made, unnamed_makes}
use Rattle.channels.proofs.channels.Channel.consume.Goals as goal

pub returns-then-len-eq0 : goal.returns-then-len-eq0
returns-then-len-eq0 c =
    let old : Open = c.args.self.now in
    subst (λ (new : Open). MakesConsumer old c.args.queue c.args.consume.now c.consume_unnamed.result new) (sym c.consume_unnamed.ensures.same)
    (unnamed_makes c.next_tags_are_found.ensures old c.consume_unnamed.new.self.given c.args.queue c.args.consume.now c.consume_unnamed.result (sym c.len.ensures ∙ c.if-len-eq0.true) c.consume_unnamed.ensures.consumes)

pub returns-in-Some : goal.returns-in-Some
returns-in-Some c =
    let old : Open = c.args.self.now in
    let why = subst (λ (t : Text). JudgesNamed old.given t (Some c.in-Some.refusal)) c.as_bytes.ensures c.in-Some.ensures in
    (named_refused old c.args.consume.now c.in-Some.refusal (λ z. c.if-len-eq0.false (c.len.ensures ∙ z)) why, refl)

pub returns-in_err-tag : goal.returns-in_err-tag
returns-in_err-tag c =
    let may = subst (CanMakeConsumer c.args.self.now.given) c.as_bytes.ensures c.in_default.ensures in
    let p = err_from_is_err_and c.from_residual.result c.from_residual.ensures.1 in
    rw (p.1, p.2) (named_free c.args.self.now c.args.consume.now (λ z. c.if-len-eq0.false (c.len.ensures ∙ z)) may, refl)

pub returns-in_err-clone : goal.returns-in_err-clone
returns-in_err-clone c =
    let may = subst (CanMakeConsumer c.args.self.now.given) c.as_bytes.ensures c.in_default.ensures in
    let p = err_from_is_err_and c.from_residual-in_err-clone.result c.from_residual-in_err-clone.ensures.1 in
    rw (p.1, p.2) (named_free c.args.self.now c.args.consume.now (λ z. c.if-len-eq0.false (c.len.ensures ∙ z)) may, refl)

pub returns-in_err-add_consumer : goal.returns-in_err-add_consumer
returns-in_err-add_consumer c =
    let may = subst (CanMakeConsumer c.args.self.now.given) c.as_bytes.ensures c.in_default.ensures in
    let p = err_from_is_err_and c.from_residual-in_err-add_consumer.result c.from_residual-in_err-add_consumer.ensures.1 in
    rw (p.1, p.2) (named_free c.args.self.now c.args.consume.now (λ z. c.if-len-eq0.false (c.len.ensures ∙ z)) may, c.in_err-add_consumer.ensures.err)

pub returns : goal.returns
returns c =
    let old : Open = c.args.self.now in
    let may = subst (CanMakeConsumer old.given) c.as_bytes.ensures c.in_default.ensures in
    let made : AddsConsumer old.given c.args.consume.now.consumer_tag c.args.queue c.args.consume.now.no_ack c.add_consumer.new.self.given
    = subst (λ (t : Text). AddsConsumer old.given t c.args.queue c.args.consume.now.no_ack c.add_consumer.new.self.given) c.in_ok-clone.ensures c.in_ok-add_consumer.ensures.ok in
    subst (λ (t : Text). IsConsumerMade old c.args.queue c.args.consume.now t c.add_consumer.new.self) (sym c.in_ok-tag.ensures)
    (subst (λ (new : Open). IsConsumerMade old c.args.queue c.args.consume.now c.args.consume.now.consumer_tag new) (sym c.add_consumer.ensures.same)
    (named_made old c.add_consumer.new.self.given c.args.queue c.args.consume.now (λ z. c.if-len-eq0.false (c.len.ensures ∙ z)) may made))
