use Rattle.commands.proofs.Names.{◌≡◌, ◌∙◌, sym, subst, BasicConsume, Kept, broker_of, names_of, running_in}
use Rattle.std.proofs.Common.{Some}
use Rattle.commands.specs.NewConsumers.{consumer_made_on}
use Rattle.commands.proofs.Making.{made_on}
use Rattle.commands.proofs.cores.Core.consumer_made_on.Goals as goal

-- a consume that is not refused is given the next numbers of its channel
pub returns-clause-numbers : goal.returns-clause-numbers
returns-clause-numbers c =
    let kept : Kept = record { store = c.self.inside.depot; connections = c.self.inside.connections } in
    subst (λ (k : Kept). Some (record { connection = c.args.connection; channel = c.args.channel; number = c.in_ok-number.number })
    ≡ consumer_made_on k c.args.connection c.args.channel (BasicConsume c.args.consume.now) (running_in k.connections c.args.connection)) c.self.view_is
    (made_on kept c.args.connection c.args.channel c.in_ok-number.number c.args.consume.now c.in_ok-running.running.now c.topology.result.now c.judge_consume.result
    c.topology.ensures c.in_ok-running.ensures (sym c.is_some.ensures ∙ c.if-is_some.false) (c.judge_consume.ensures (names_of kept) (broker_of kept)) c.in_ok-number.ensures.next)
