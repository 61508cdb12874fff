use Rattle.channels.proofs.Imports.{◌<◌, ◌+◌, ◌∙◌, ap, length, length-filter, is_waiting, ℕ, sym, subst, List, kept, tag_of, CountsAgree, AreNumbered, NoneAbove, TagsDiffer, AreParts, Delivery}
use Rattle.channels.specs.Spans.{settled_by}
use Rattle.channels.proofs.Counting.{none_above_kept, taken_parts}
use Rattle.channels.proofs.Marking.{taken_count}
use Rattle.channels.proofs.channels.Channel.forget_span.Goals as goal

pub forget-requires : goal.forget-requires
forget-requires c =
    let os = c.self.inside.pending.outstanding in
    let gone = c.settled_of-gone.ensures ∙ ap (settled_by c.args.span) c.all.ensures.all in
    ap (λ (n : ℕ). n + length (kept tag_of c.args.span.tag c.args.span.multiple os))
    (c.count_waiting-count.ensures ∙ sym (length-filter is_waiting c.settled_of-gone.result.now) ∙ ap (λ (ds : List Delivery). length ds) gone)
    ∙ taken_count os c.args.span.tag c.args.span.multiple

pub invariant_of-self : goal.invariant_of-self
invariant_of-self c =
    let os = c.self.inside.pending.outstanding in
    let left = kept tag_of c.args.span.tag c.args.span.multiple os in
    let gone = c.settled_of-gone.ensures ∙ ap (settled_by c.args.span) c.all.ensures.all in (
      subst (λ (n : ℕ). n < c.self.inside.next_tag) (sym c.forget.ensures.last) c.self.invariant.0,
      subst (λ (ds : List Delivery). CountsAgree c.count_out.new.self ds) (sym c.forget.ensures.outstanding)
          (c.count_out.ensures.counted _ _ (subst (λ (ds : List Delivery). AreParts os ds left) (sym gone) (taken_parts os c.args.span.tag c.args.span.multiple)) c.self.invariant.1),
      subst (AreNumbered c.self.inside.next_number) (sym c.count_out.ensures.consumers) c.self.invariant.2,
      subst (NoneAbove c.self.inside.most_given) (sym c.forget.ensures.outstanding) (none_above_kept c.self.inside.most_given os c.args.span.tag c.args.span.multiple c.self.invariant.3),
      subst TagsDiffer (sym c.count_out.ensures.consumers) c.self.invariant.4,
    )
