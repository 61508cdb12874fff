use Rattle.channels.proofs.Imports.{rules, map_same_pairs, running_moved}
use Rattle.channels.proofs.connections.renumber_all.Goals as goal

pub returns : goal.returns
returns c = map_same_pairs _ (running_moved c.args.places.now) _ (λ k v b w f' t. search rules) _ _ c.retain.ensures.filtered
