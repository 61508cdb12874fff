use Rattle.serving.proofs.Names.{◌≡◌, ◌∙◌, List, Bool, length, max, sym, ap, subst, IsNextLoud}
use Rattle.serving.proofs.Loudness.{next_behind, next_here, next_in}
use Rattle.serving.proofs.slot_marks.SlotMarks.next_loud.Goals as goal

pub returns-then-not-contains : goal.returns-then-not-contains
returns-then-not-contains c = next_here _ c.args.from (sym c.contains.ensures ∙ c.if-not-contains.true)

pub returns-in-Some : goal.returns-in-Some
returns-in-Some c =
    subst (λ (ms : List Bool). IsNextLoud ms c.args.from c.in-Some.slot) c.self.view_is
    (next_in c.self.inside.loud c.self.inside.marks.items c.args.from c.in-Some.slot c.self.invariant c.in-Some.ensures.some)

pub returns-in-None : goal.returns-in-None
returns-in-None c =
    let marks = c.self.inside.marks.items in
    let len : c.len.result ≡ length marks = c.len.ensures ∙ c.self.inside.marks.ok.0 in
    let is : c.max.result ≡ max c.args.from (length marks) = c.max.ensures ∙ ap (max c.args.from) len in
    subst (λ (ms : List Bool). IsNextLoud ms c.args.from c.max.result) c.self.view_is
    (subst (IsNextLoud marks c.args.from) (sym is) (next_behind c.self.inside.loud marks c.args.from c.self.invariant c.in-None.ensures.none))
