use Rattle.commands.proofs.Names.{refl, None, none-some, Kept, broker_of}
use Rattle.commands.proofs.Placing.{placed_put}
use Rattle.commands.proofs.Remaining.{emptied}
use Rattle.commands.proofs.Stepping.{put_is}
use Rattle.commands.proofs.cores.Core.end_channel.Goals as goal

pub invariant_of-self : goal.invariant_of-self
invariant_of-self c =
    let old : Kept = record { store = c.self.inside.depot; connections = c.self.inside.connections } in
    let new : Kept = record { store = c.self.inside.depot; connections = c.put-before.new.self } in
    placed_put old new c.args.connection c.args.channel None refl c.put-before.ensures.put (λ k is. absurd (none-some k is)) c.self.invariant

-- its consumers leave with it
pub returns-clause-ended : goal.returns-clause-ended
returns-clause-ended c =
    let old : Kept = record { store = c.self.inside.depot; connections = c.self.inside.connections } in
    let new : Kept = record { store = c.self.inside.depot; connections = c.put-before.new.self } in
    rw (← c.self.view_is)
    (c.put-before.ensures.before, emptied (broker_of old) (broker_of new) c.args.connection c.args.channel None (put_is old new c.args.connection c.args.channel None refl c.put-before.ensures.put).channels refl)
