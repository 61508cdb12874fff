-- The names that several files of these proofs use.
pub use Rattle.model.specs.Grammar.{Ids, ids}
pub use Rattle.model.specs.Login.{HasNoNul, IsHashOf, IsLogin, IsPlain}
pub use Rattle.model.specs.Opening.{at_open, at_start, at_tune, opening_move, or_closed, server_properties, start}
pub use Rattle.model.specs.Phases.{Move, Session, after_sends, faulted, no_session, to_phase}
pub use Rattle.model.specs.Step.{connection_close}
pub use Rattle.model.specs.Topology.{IsIn}
pub use Rattle.model.specs.Words.{Text}
pub use Rattle.model.specs.declared.events.Phase.{Phase}
pub use Rattle.model.specs.declared.events.Send.{Send}
pub use Rattle.session.specs.Tests.{IsCut, has_hash, is_user}
pub use Rattle.std.proofs.Common.{Bool, Bor, Decides, IsFalse, IsTrue, List, MatchOption, None, Option, Some, [], ap, arith, codes, cond, drop, false, get_or, inl, inr, is_some, length, length-append, lit<, lit≤, ltb, not, position, refl, subst, suc, sym, take, true, true≢false, ℕ, ◌&&◌, ◌++◌, ◌+◌, ◌<◌, ◌==◌, ◌||◌, ◌∙◌, ◌∷◌, ◌≡◌, ◌≢◌, ◌≤◌}
pub use Rattle.std.proofs.lemmas.Bool.{eqb-true, ltb-false, ltb-true}
pub use Rattle.std.proofs.lemmas.List.{length-take-le, take_all, take_at}
pub use Rattle.std.specs.List.{list_any, position_or_len}
