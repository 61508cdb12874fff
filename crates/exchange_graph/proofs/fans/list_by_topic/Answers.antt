use Rattle.exchange_graph.proofs.Names.{on_ok_weaker}
use Rattle.exchange_graph.proofs.Passing.{topic_within, topic_passes}
use Rattle.exchange_graph.proofs.fans.list_by_topic.Goals as goal

pub list_at-requires : goal.list_at-requires
list_at-requires c k d h =
    rw c.as_slice.ensures.value (topic_within c.args.ways.now c.args.key.now c.args.topics.now c.in_ok-places.places.items c.requires c.in_ok-places.ensures k d (rw c.as_slice.ensures.value at h))

pub returns : goal.returns
returns c =
    on_ok_weaker c.list_at.result
    (λ e. topic_passes c.args.key.now c.args.ways.now c.args.topics.now c.in_ok-places.places.items c.as_slice.result.now c.requires c.as_slice.ensures.value c.in_ok-places.ensures c.list_at.new.ends.items e)
    c.list_at.ensures
