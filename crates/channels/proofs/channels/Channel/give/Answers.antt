use Rattle.channels.proofs.Imports.{◌≡◌, ◌-◌, ◌<◌, ◌∙◌, ℕ, number_given, List, ap, refl, sym, subst, arith, length, length-append, All, NoneAbove, CountsAgree, AreNumbered, TagsDiffer, Delivery}
use Rattle.std.specs.Prelude.{max}
use Rattle.channels.proofs.Counting.{counts_small, none_above_give}
use Rattle.channels.proofs.channels.Channel.give.Goals as goal

pub count_in-requires-clause-each : goal.count_in-requires-clause-each
count_in-requires-clause-each c =
    let l = c.push.ensures.bounded in
    let n = ap length c.push.ensures.outstanding in
    let few : length c.self.inside.pending.outstanding < 18446744073709551615 = omega (arith, length-append {A = Delivery}) in
    subst (λ (ns : List ℕ). All (λ k. k < 18446744073709551615) ns) (sym c.self.invariant.1.each) (counts_small 18446744073709551615 c.self.inside.consumers.consumers c.self.inside.pending.outstanding few)

pub invariant_of-self : goal.invariant_of-self
invariant_of-self c =
    let os = c.self.inside.pending.outstanding in
    let one : Delivery = record { tag = c.self.inside.next_tag; queue = c.args.queue; arrival = c.args.arrival; by = c.args.by } in
    let most = c.max-self-inside.ensures in (
      omega (arith, c.push.ensures.last),
      subst (CountsAgree c.count_in.new.self) (sym c.push.ensures.outstanding) (c.count_in.ensures.counted os one refl c.self.invariant.1),
      subst (AreNumbered c.self.inside.next_number) (sym c.count_in.ensures.consumers) c.self.invariant.2,
      subst (λ (m : ℕ). NoneAbove m c.push.new.self.outstanding) (sym (most ∙ ap (max c.self.inside.most_given) c.number_of.ensures))
          (subst (NoneAbove (max c.self.inside.most_given (number_given c.args.by))) (sym c.push.ensures.outstanding) (none_above_give c.self.inside.most_given os one c.self.invariant.3)),
      subst TagsDiffer (sym c.count_in.ensures.consumers) c.self.invariant.4,
    )

pub returns : goal.returns
returns c =
    let less : c.push.new.self.room ≡ c.self.inside.pending.room - 1 = omega (arith, c.push.ensures.room) in
    rw (← c.self.view_is) (cc (less, c.push.ensures.outstanding, c.count_in.ensures.consumers, c.count_in.ensures.room))
