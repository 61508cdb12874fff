use Rattle.channels.proofs.Imports.{◌≡◌, refl, ◌∙◌, sym, ap, subst, arith, List, ◌+◌, map, is_delivery, count_to, count_given, taker_of, waiting, ConsumerCounts, CountsAgree, consumers_of, counts_of, counted_out, Consumer}
use Rattle.channels.proofs.Counting.{same_consumers, new_counts, step_out}
use Rattle.channels.proofs.Marking.{counted_waiting}
use Rattle.channels.proofs.counted_consumers.CountedConsumers.count_out.Goals as goal

pub returns-clause-consumers : goal.returns-clause-consumers
returns-clause-consumers c = subst (λ (s : ConsumerCounts). consumers_of c.count_out.new.consumers.items ≡ s.consumers) c.self.view_is
    (ap consumers_of c.count_out.ensures.consumers ∙ same_consumers (counted_out (waiting c.args.gone.now)) (λ s. refl) c.self.inside.consumers.items)

pub returns-clause-counted : goal.returns-clause-counted
returns-clause-counted c given left parts k =
    let was : CountsAgree (record { consumers = consumers_of c.self.inside.consumers.items; held = counts_of c.self.inside.consumers.items; given = c.self.inside.given; room = _ }) given = subst (λ (s : ConsumerCounts). CountsAgree s given) (sym c.self.view_is) k in
    let same = ap consumers_of c.count_out.ensures.consumers ∙ same_consumers (counted_out (waiting c.args.gone.now)) (λ s. refl) c.self.inside.consumers.items in
    let all = was.all in
    let p : count_given taker_of given ≡ count_given taker_of (waiting c.args.gone.now) + count_given taker_of left = parts (λ x. is_delivery (taker_of x)) in
    let q : c.given_to_all.result ≡ count_given taker_of (waiting c.args.gone.now) = c.given_to_all.ensures ∙ counted_waiting (λ o. is_delivery o.by) c.args.gone.now in
    record {
      each = ap counts_of c.count_out.ensures.consumers ∙ new_counts (counted_out (waiting c.args.gone.now)) given left (step_out given (waiting c.args.gone.now) left parts) c.self.inside.consumers.items was.each
          ∙ ap (λ (cs : List Consumer). map (λ (x : Consumer). count_to taker_of x.number left) cs) (sym same);
      all = omega arith;
    }
