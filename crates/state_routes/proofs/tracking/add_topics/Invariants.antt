use Rattle.state_routes.proofs.Names.{◌≡◌, drop, topics_onto}
use Rattle.state_routes.proofs.tracking.add_topics.Given as goal

abbrev pub invariant-loop-text : goal.invariant-loop-text
invariant-loop-text l = topics_onto l.list (drop l.text-index l.texts) ≡ topics_onto l.fn.list l.texts
