use Rattle.topic_match.proofs.Names.{◌++◌, ◌∷◌, [], List, Bool, subst, sym, ◌∙◌, AreCounts, beginning_at}
use Rattle.topic_match.proofs.Leaving.{none_out}
use Rattle.topic_match.proofs.Walking.{barren_none, barren_empty, step_is}
use Rattle.topic_match.proofs.walks.step.Goals as goal

pub returns-then-not-may_go-clause-none : goal.returns-then-not-may_go-clause-none
returns-then-not-may_go-clause-none c =
    barren_none c.args.patterns.now c.args.links.now.nodes.now c.args.links.now.slots.now c.args.words.now c.args.from.now.node c.args.by.now c.requires.linked c.requires.within
    (none_out c.args.patterns.now c.args.links.now.nodes.now c.args.links.now.exits.now c.args.from.now.node _ c.args.by.now c.requires.exits c.requires.within (sym c.may_go.ensures ∙ c.if-not-may_go.true))

pub returns-in_default-clause-none : goal.returns-in_default-clause-none
returns-in_default-clause-none c =
    barren_none c.args.patterns.now c.args.links.now.nodes.now c.args.links.now.slots.now c.args.words.now c.args.from.now.node c.args.by.now c.requires.linked c.requires.within c.in_default.ensures

pub returns-then-not-has_some-clause-none : goal.returns-then-not-has_some-clause-none
returns-then-not-has_some-clause-none c =
    barren_empty c.args.patterns.now c.args.links.now.nodes.now c.args.words.now c.args.from.now.node c.args.by.now c.as_slice-2.result.now
    (subst (λ (z : List Bool). AreCounts (beginning_at c.args.patterns.now c.args.links.now.nodes.now c.args.from.now.node ++ c.args.by.now ∷ []) c.args.words.now z) (sym c.as_slice-2.ensures)
    (c.in_ok-counts.ensures (beginning_at c.args.patterns.now c.args.links.now.nodes.now c.args.from.now.node)
    (subst (λ (z : List Bool). AreCounts (beginning_at c.args.patterns.now c.args.links.now.nodes.now c.args.from.now.node) c.args.words.now z) (sym c.as_slice.ensures) c.requires.counted)))
    c.if-not-has_some.ensures

pub returns-clause-next : goal.returns-clause-next
returns-clause-next c =
    step_is c.args.patterns.now c.args.links.now.nodes.now c.args.links.now.slots.now c.args.words.now c.args.from.now.node c.in-Some.node c.args.by.now c.in_ok-counts.counts.items c.requires.linked
    c.in-Some.ensures
    (c.in_ok-counts.ensures (beginning_at c.args.patterns.now c.args.links.now.nodes.now c.args.from.now.node)
    (subst (λ (z : List Bool). AreCounts (beginning_at c.args.patterns.now c.args.links.now.nodes.now c.args.from.now.node) c.args.words.now z) (sym c.as_slice.ensures) c.requires.counted))
