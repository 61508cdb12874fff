-- The names that several files of these proofs use.
pub use Rattle.model.proofs.Left.{left}
pub use Rattle.model.specs.Parts.{parts_left}
pub use Rattle.model.specs.Topology.{IsIn}
pub use Rattle.model.specs.Words.{Matches, Text, any_more, any_none, none, one, onto_first, pieces, tokens, word, words}
pub use Rattle.model.specs.declared.texts.Token.{Token}
pub use Rattle.model.specs.declared.texts.Token.TheVariants.{Any, One, Word}
pub use Rattle.std.proofs.Common.{Bool, List, [], ap, append-nil, append_assoc, arith, cond, drop, eqb, false, get_or, inl, inr, length, length-append, ltb, refl, replicate, rules, set, subst, suc, sym, take, true, zero, ℕ, ◌*◌, ◌++◌, ◌+◌, ◌-◌, ◌/◌, ◌<◌, ◌∙◌, ◌∷◌, ◌≡◌, ◌≤◌}
pub use Rattle.std.proofs.lemmas.Bool.{eqb-true, false≢true, ltb-false, ltb-true}
pub use Rattle.std.proofs.lemmas.List.{same_from_push, take-append-drop}
pub use Rattle.std.proofs.lemmas.Slice.Eq.{bytes_eq-Decides}
pub use Rattle.std.specs.Prelude.{AllPairs, Decides, IfNone, IfOk, IfSome, None, Option, Some, option_copied}
pub use Rattle.topic_match.specs.Beginnings.{AllDistinct, Begins, IsCounted, IsPair, Pair}
pub use Rattle.topic_match.specs.Building.{AreGrown, EndAt}
pub use Rattle.topic_match.specs.Counts.{AreCounts, AreCountsTo, matches_after, matches_empty, trues}
pub use Rattle.topic_match.specs.Ends.{AreEnding, AreFound, AreRising, AreSound, IsFound}
pub use Rattle.topic_match.specs.Exits.{AreDeep, AreExits, has_exit, no_exit, with_exit}
pub use Rattle.topic_match.specs.Nodes.{AreLinked, Found, IsChild, IsDeep, IsFoundBy, IsLast, IsNode, IsSlotOf, KeepNodes, beginning, beginning_at, bits_of, first_slot, further, heads_of, here, last_token, mark_of, mixed, no_node, node_at, slot_behind}
pub use Rattle.topic_match.specs.Indices.{AreMatches, AreSome}
pub use Rattle.topic_match.specs.Taking.{Advances, IsStuck, IsWithoutAny, IsWordTaken, still, taken, token_takes}
pub use Rattle.topic_match.specs.Tries.{IsTrie}
pub use Rattle.topic_match.specs.Walks.{AreAdded, AreMet, AreSteps, GoesOn, IsBarren, IsStep, nodes_of, trues_in}
pub use Rattle.topic_match.specs.declared.nodes.Met.{Met}
pub use Rattle.topic_match.specs.declared.nodes.Node.{Node}
