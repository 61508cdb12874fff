use Rattle.server.proofs.Names.{◌≡◌, List, ℕ, take, length, true, ap, ◌∙◌}
use Rattle.std.proofs.Math.Seq.{take-append_seam}
use Rattle.std.specs.Cmp.Lexicographic.{bytes_decides}
use Rattle.server.proofs.parts.behind.Goals as goal

pub returns-else-eq : goal.returns-else-eq
returns-else-eq c = λ rest e.
    let front = c.split_at.result.0.now in
    let same : front ≡ c.args.part.now = c.split_at.ensures.front ∙ ap (λ (l : List ℕ). take (length c.args.part.now) l) e ∙ take-append_seam c.args.part.now rest in
    let yes : c.eq.result ≡ true = c.eq.ensures ∙ (bytes_decides front c.args.part.now).1 same in
    cc (yes, c.if-eq.false)
