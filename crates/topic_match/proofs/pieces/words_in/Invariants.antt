use Rattle.topic_match.proofs.Names.{◌≡◌, ◌++◌, option_copied, pieces, parts_left, left}
use Rattle.topic_match.proofs.pieces.words_in.Given as goal

abbrev pub invariant-pieces : goal.invariant-pieces
invariant-pieces l = l.found.items ++ parts_left 46 (option_copied l.rest) ≡ pieces l.key

abbrev pub decreases-pieces : goal.decreases-pieces
decreases-pieces l = left (option_copied l.rest)
