use Rattle.assembly.proofs.Imports.{◌≡◌, ◌==◌, MatchBool, rules, Breaks, TakesPayload, awaited, seen}
use Rattle.assembly.proofs.Places.{does_there}
use Rattle.assembly.proofs.frames.take_on_channel.Goals as goal

pub returns-clause-does : goal.returns-clause-does
returns-clause-does c =
    does_there (λ p t. MatchBool (c.args.frame.now.kind == awaited p) (TakesPayload c.args.keeps p (seen c.args.frame.now) t) (t ≡ Breaks 505))
    c.args.contents.now.items c.args.channel c.index_mut.result.now c.take_awaited.new.pending c.take_awaited.result
    (search rules) c.index_mut.ensures.value c.take_awaited.ensures.does
