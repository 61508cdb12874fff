use Rattle.commands.proofs.Names.{◌≡◌, ◌∙◌, ap, sym, running_in, Kept, names_of}
use Rattle.std.proofs.Common.{Some}
use Rattle.std.specs.Option.{option_copied}
use Rattle.commands.proofs.Stepping.{large_judged}
use Rattle.commands.proofs.cores.Core.judge_large.Goals as goal

pub returns-in-Some : goal.returns-in-Some
returns-in-Some c =
    let kept = c.args.self.now in
    let running = c.in-Some.running.now in
    let there : running_in kept.connections c.args.connection ≡ Some running =
    sym (c.get.ensures ∙ ap (λ (k : Kept). running_in k.connections c.args.connection) c.self.view_is) ∙ ap option_copied c.in-Some.is in
    large_judged kept c.args.connection c.args.channel c.judge_large.result running there (c.judge_large.ensures.is (names_of kept)) (c.judge_large.ensures.channel (names_of kept))
