use Rattle.engine.proofs.Names.{ltb, rules, IsPartitionPoint-from_clause, IsPartitionedBy-ltb, Connection}
use Rattle.engine.proofs.Found.{never_less, first_there}
use Rattle.engine.proofs.connections.known_index.Goals as goal

pub returns-in-None : goal.returns-in-None
returns-in-None c =
    let parted = IsPartitionedBy-ltb (λ (l : Connection). l.number) c.args.connections.now c.args.number (never_less c.args.connections.now c.requires.rising) in
    let point = IsPartitionPoint-from_clause (λ (l : Connection). ltb l.number c.args.number) _ _ c.partition_point.ensures.partitioned parted (λ a r q k. search rules) in
    let place = first_there c.args.connections.now c.args.number c.partition_point.result c.requires.rising point c.requires.there in
    record { index = place; within = place.0 }
