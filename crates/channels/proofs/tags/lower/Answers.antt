use Rattle.channels.proofs.Imports.{ltb, ltb-false, arith, rules, Delivery, given_tag}
use Rattle.std.proofs.Common.{ltb-true}
use Rattle.std.proofs.lemmas.List.Sorted.{IsPartitionPoint-from_clause, IsPartitionedBy-ltb}
use Rattle.channels.proofs.Settlement.{never_less}
use Rattle.channels.proofs.tags.lower.Goals as goal

pub returns-clause-below : goal.returns-clause-below
returns-clause-below c =
    let parted = IsPartitionedBy-ltb given_tag c.args.given.now c.args.tag (never_less c.args.given.now c.requires) in
    let point = IsPartitionPoint-from_clause (λ (o : Delivery). ltb (given_tag o) c.args.tag) _ _ c.partition_point.ensures.partitioned parted (λ a r q k. search rules) in
    λ k d lt. ltb-true _ _ (point.0 k d (omega arith) lt)

pub returns-clause-above : goal.returns-clause-above
returns-clause-above c =
    let parted = IsPartitionedBy-ltb given_tag c.args.given.now c.args.tag (never_less c.args.given.now c.requires) in
    let point = IsPartitionPoint-from_clause (λ (o : Delivery). ltb (given_tag o) c.args.tag) _ _ c.partition_point.ensures.partitioned parted (λ a r q k. search rules) in
    λ k d le lt. ltb-false _ _ (point.1 k d le lt)
