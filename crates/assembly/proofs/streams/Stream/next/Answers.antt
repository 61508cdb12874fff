use Rattle.assembly.proofs.Imports.{sym, ◌∙◌, stream}
use Rattle.assembly.proofs.Breaks.{broken_stops}
use Rattle.assembly.proofs.streams.Stream.next.Goals as goal

pub returns-in-Some-clause-yields : goal.returns-in-Some-clause-yields
returns-in-Some-clause-yields c =
    let i = c.self.inside in
    rw (← c.self.view_is) (broken_stops i.fault (stream i.is_new i.max i.keeps i.contents.items i.unread.bytes) c.in-Some.code c.in-Some.is c.self.invariant.2)

pub returns-clause-room : goal.returns-clause-room
returns-clause-room c = λ sound none. c.give_back.ensures.freed (sym c.give_back.ensures.bytes ∙ none)
