use Rattle.channels.proofs.Imports.{◌∙◌, sym, subst, Text, JudgesNamed, JudgesUnnamed}
use Rattle.channels.proofs.Making.{named_judged, unnamed_judged, unnamed_reason}
use Rattle.channels.proofs.channels.Channel.refusal.Goals as goal

pub returns-then-len-eq0 : goal.returns-then-len-eq0
returns-then-len-eq0 c = unnamed_judged c.next_tags_are_found.ensures c.args.self.now c.args.consume.now c.err.result (sym c.len.ensures ∙ c.if-len-eq0.true)
    (subst (JudgesUnnamed c.args.self.now.given) (sym c.err.ensures.value) (unnamed_reason c.args.self.now.given c.next_unnamed.result c.next_unnamed.ensures))

pub returns : goal.returns
returns c = named_judged c.args.self.now c.args.consume.now c.refusal_named.result (λ z. c.if-len-eq0.false (c.len.ensures ∙ z))
    (subst (λ (t : Text). JudgesNamed c.args.self.now.given t c.refusal_named.result) c.as_bytes.ensures c.refusal_named.ensures)
