use Rattle.channels.proofs.Imports.{◌≡◌, cond, ◌∙◌, ◌++◌, ◌∷◌, ◌<◌, [], sym, ap, subst, ℕ, List, ◌+◌, map, All, is_delivery, count_to, count_given, Taker, taker_of, ConsumerCounts, CountsAgree, consumers_of, counts_of, counted_in, Consumer}
use Rattle.channels.proofs.Counting.{same_consumers, new_counts, in_consumer, step_in, one_more, held_small}
use Rattle.channels.proofs.counted_consumers.CountedConsumers.count_in.Goals as goal

pub count_in-requires-clause-held : goal.count_in-requires-clause-held
count_in-requires-clause-held c = held_small 18446744073709551615 c.self.inside.consumers.items (subst (λ (s : ConsumerCounts). All (λ k. k < 18446744073709551615) s.held) (sym c.self.view_is) c.requires.each)

pub returns-clause-consumers : goal.returns-clause-consumers
returns-clause-consumers c = subst (λ (s : ConsumerCounts). consumers_of c.count_in.new.consumers.items ≡ s.consumers) c.self.view_is
    (ap consumers_of c.count_in.ensures.consumers ∙ same_consumers (counted_in c.args.by.now) (in_consumer c.args.by.now) c.self.inside.consumers.items)

pub returns-clause-counted : goal.returns-clause-counted
returns-clause-counted c given o e k =
    let was : CountsAgree (record { consumers = consumers_of c.self.inside.consumers.items; held = counts_of c.self.inside.consumers.items; given = c.self.inside.given; room = _ }) given = subst (λ (s : ConsumerCounts). CountsAgree s given) (sym c.self.view_is) k in
    let same = ap consumers_of c.count_in.ensures.consumers ∙ same_consumers (counted_in c.args.by.now) (in_consumer c.args.by.now) c.self.inside.consumers.items in
    let one : c.one_if_consumed.result ≡ cond (is_delivery o.by) 1 0 = c.one_if_consumed.ensures ∙ ap (λ (t : Taker). cond (is_delivery t) 1 0) (sym e) in
    record {
      each = ap counts_of c.count_in.ensures.consumers ∙ new_counts (counted_in c.args.by.now) given (given ++ o ∷ []) (step_in c.args.by.now given o e) c.self.inside.consumers.items was.each
          ∙ ap (λ (cs : List Consumer). map (λ (x : Consumer). count_to taker_of x.number (given ++ o ∷ [])) cs) (sym same);
      all = ap (λ (n : ℕ). n + c.one_if_consumed.result) was.all ∙ ap (λ (n : ℕ). count_given taker_of given + n) one ∙ sym (one_more (λ x. is_delivery (taker_of x)) given o);
    }
