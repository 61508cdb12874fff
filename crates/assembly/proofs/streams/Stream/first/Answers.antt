use Rattle.assembly.proofs.Imports.{◌≡◌, ap, refl, ◌∙◌, true, Held}
use Rattle.assembly.proofs.Onwards.{first_given, first_missing}
use Rattle.assembly.proofs.streams.Stream.first.Goals as goal

pub returns-in-Some-clause-yields : goal.returns-in-Some-clause-yields
returns-in-Some-clause-yields c =
    let awaited : c.self.inside.is_new ≡ true = ap (λ (h : Held). h.is_new) c.self.view_is ∙ c.requires.is_new in
    let e = c.in-Some.ensures in
    rw (← c.self.view_is) (first_given _ c.take_eight.new.unread.bytes c.in-Some.bytes awaited e.0 e.1)

pub returns-in-None-clause-yields : goal.returns-in-None-clause-yields
returns-in-None-clause-yields c =
    let awaited : c.self.inside.is_new ≡ true = ap (λ (h : Held). h.is_new) c.self.view_is ∙ c.requires.is_new in
    let e = c.in-None.ensures in
    rw (← c.self.view_is, e.1) (first_missing _ _ awaited e.0 refl)
