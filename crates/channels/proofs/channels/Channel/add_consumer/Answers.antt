use Rattle.channels.proofs.Imports.{◌≡◌, ◌+◌, ◌++◌, ◌∷◌, [], refl, sym, ap, subst, ◌∙◌, false, list_any, count_to, taker_of, ConsumerCounts, CountsAgree, AreNumbered, NoneAbove, TagsDiffer, is_named, Open, Consumer}
use Rattle.channels.proofs.Numbering.{numbered_push}
use Rattle.channels.proofs.Tagging.{differ_push}
use Rattle.channels.proofs.channels.Channel.add_consumer.Goals as goal

pub invariant_of-self-2 : goal.invariant_of-self-2
invariant_of-self-2 c =
    let next = c.self.inside.next_number in
    let old : ConsumerCounts = c.self.inside.consumers in
    let os = c.self.inside.pending.outstanding in
    let one : Consumer = record { number = next; tag = c.args.tag; queue = c.args.queue; no_ack = c.args.no_ack; limit = c.self.inside.each_limit } in
    let was : CountsAgree (record old { room = c.reserve.new.self.room }) os = record { each = c.self.invariant.1.each; all = c.self.invariant.1.all } in
    let pushed : c.push.new.self.consumers ≡ old.consumers ++ one ∷ [] = c.push.ensures.consumers ∙ ap (λ (s : ConsumerCounts). s.consumers ++ one ∷ []) c.reserve.ensures.same in (
      c.self.invariant.0,
      c.push.ensures.counted os (subst (λ (s : ConsumerCounts). CountsAgree s os) (sym c.reserve.ensures.same) was) (c.held_by-held.ensures ∙ ap (count_to taker_of next) c.all.ensures.all),
      subst (AreNumbered (next + 1)) (sym pushed) (numbered_push next old.consumers one refl c.self.invariant.2),
      c.self.invariant.3,
      subst TagsDiffer (sym pushed)
          (differ_push old.consumers one (subst (λ (ch : Open). list_any (is_named c.args.tag) ch.given.consumers ≡ false) (sym c.self.view_is) c.requires.free) c.self.invariant.4),
    )

pub held_by-held-requires : goal.held_by-held-requires
held_by-held-requires c = subst (NoneAbove c.self.inside.most_given) (sym c.all.ensures.all) c.self.invariant.3
