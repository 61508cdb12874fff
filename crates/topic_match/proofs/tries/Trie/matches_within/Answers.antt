use Rattle.topic_match.proofs.Names.{◌≡◌, ◌<◌, ◌≤◌, List, rules, subst, ap, ◌∙◌, length, Text, words, Token, Met, IsCounted, AreMatches, trues_in}
use Rattle.topic_match.proofs.Law.{sound}
use Rattle.topic_match.proofs.Pairs.{counted}
use Rattle.topic_match.proofs.Sorting.{law, same_met, same_sound, same_rising}
use Rattle.topic_match.proofs.tries.Trie.matches_within.Goals as goal

pub rising_at-requires : goal.rising_at-requires
rising_at-requires c =
    same_sound c.as_slice-6.result.now c.self.inside.indices.items c.as_slice-7.result.now c.in_ok-met.met.items c.len-2.result (length (words c.args.key.now)) c.as_slice-6.ensures.value c.as_slice-7.ensures.value
    ((let n : c.len-2.result ≡ length c.in_ok-words.words.items = search rules in n) ∙ ap (λ (z : List Text). length z) c.in_ok-words.ensures)
    (sound c.self.inside.patterns.items c.self.inside.nodes.items c.self.inside.slots.items c.self.inside.ends.items c.self.inside.indices.items (words c.args.key.now) c.in_ok-met.met.items c.self.invariant.0
    (same_met c.as_slice.result.now c.self.inside.patterns.items c.as_slice-2.result.now c.self.inside.nodes.items c.as_slice-5.result.now (words c.args.key.now) c.in_ok-met.met.items
    c.as_slice.ensures.value c.as_slice-2.ensures.value (c.as_slice-5.ensures ∙ c.in_ok-words.ensures) (c.in_ok-met.ensures (let few : length c.in_ok-met.met.items ≤ c.args.most = search rules in few))))

pub returns-clause-indices : goal.returns-clause-indices
returns-clause-indices c =
    subst (λ (z : List (List Token)). AreMatches z c.args.key.now c.in_ok-indices.indices.items) c.self.view_is
    (law c.self.inside.patterns.items c.self.inside.nodes.items c.self.inside.slots.items c.self.inside.ends.items c.self.inside.indices.items c.args.key.now c.in_ok-met.met.items c.in_ok-indices.indices.items
    c.self.invariant.0
    (same_met c.as_slice.result.now c.self.inside.patterns.items c.as_slice-2.result.now c.self.inside.nodes.items c.as_slice-5.result.now (words c.args.key.now) c.in_ok-met.met.items
    c.as_slice.ensures.value c.as_slice-2.ensures.value (c.as_slice-5.ensures ∙ c.in_ok-words.ensures) (c.in_ok-met.ensures (let few : length c.in_ok-met.met.items ≤ c.args.most = search rules in few)))
    (same_rising c.as_slice-6.result.now c.self.inside.indices.items c.as_slice-7.result.now c.in_ok-met.met.items c.len-2.result (length (words c.args.key.now)) c.in_ok-indices.indices.items
    c.as_slice-6.ensures.value c.as_slice-7.ensures.value ((let n : c.len-2.result ≡ length c.in_ok-words.words.items = search rules in n) ∙ ap (λ (z : List Text). length z) c.in_ok-words.ensures) c.in_ok-indices.ensures))

pub returns-clause-count : goal.returns-clause-count
returns-clause-count c =
    subst (λ (z : List (List Token)). IsCounted z c.args.key.now c.trues_in.result) c.self.view_is
    (counted c.self.inside.patterns.items c.self.inside.nodes.items c.self.inside.slots.items c.self.inside.ends.items c.self.inside.indices.items c.args.key.now c.in_ok-met.met.items c.trues_in.result
    c.self.invariant.0 (let h : 0 < length c.self.inside.patterns.items = search rules in h)
    (same_met c.as_slice.result.now c.self.inside.patterns.items c.as_slice-2.result.now c.self.inside.nodes.items c.as_slice-5.result.now (words c.args.key.now) c.in_ok-met.met.items
    c.as_slice.ensures.value c.as_slice-2.ensures.value (c.as_slice-5.ensures ∙ c.in_ok-words.ensures) (c.in_ok-met.ensures (let few : length c.in_ok-met.met.items ≤ c.args.most = search rules in few)))
    (c.trues_in.ensures ∙ ap (λ (z : List Met). trues_in z) c.as_slice-8.ensures.value))
