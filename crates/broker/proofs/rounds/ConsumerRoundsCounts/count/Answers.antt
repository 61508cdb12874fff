use Rattle.broker.proofs.Names.{◌∙◌, List, length, sym, ap, arith, Pick, Queue, Rounds, line_of, order}
use Rattle.std.proofs.Common.{◌≡◌}
use Rattle.broker.proofs.Marked.{no_line}
use Rattle.broker.proofs.Members.{items_length}
use Rattle.broker.proofs.rounds.ConsumerRoundsCounts.count.Goals as goal

pub returns-in-Some : goal.returns-in-Some
returns-in-Some c =
    let line : c.in-Some.line.now ≡ line_of c.args.self.now.lines c.args.queue = c.in-Some.ensures.lookup.4 (omega arith) no_line ∙ ap (λ (ls : List (Queue Pick)). line_of ls c.args.queue) (c.deref.ensures.value ∙ ap (λ (r : Rounds). r.lines) c.self.view_is) in
    (c.len.ensures ∙ sym (items_length c.in-Some.line.now.order) ∙ ap (λ (l : Queue Pick). length (order l)) line, omega arith)
