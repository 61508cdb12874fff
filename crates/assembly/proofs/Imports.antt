-- The names that several files of these proofs use.
pub use Rattle.assembly.specs.Faults.{IsFault}
pub use Rattle.assembly.specs.Front.{HasFront, whole}
pub use Rattle.assembly.specs.Held.{Held, stream}
pub use Rattle.assembly.specs.Onward.{GivesCommand, IsBrokenBy, Stops, YieldsNext, has_command}
pub use Rattle.assembly.specs.Pending.{AreSpelledSoFar, HasPublish, IsPublishBegun, IsSpelledSoFar, content_at, pending_at, pending_of}
pub use Rattle.assembly.specs.Taking.{DoesAt, TakesEffect}
pub use Rattle.assembly.specs.declared.contents.Awaited.{Awaited}
pub use Rattle.assembly.specs.declared.contents.Awaited.TheVariants.{WantsBody, WantsHeader}
pub use Rattle.assembly.specs.declared.faults.Fault.{Fault}
pub use Rattle.assembly.specs.declared.faults.Fault.TheVariants.{Broken, Memory}
pub use Rattle.frame.specs.Reading.{IsUnfinished, seen}
pub use Rattle.headers.specs.Reading.{header_seen}
pub use Rattle.model.specs.Broker.{with_one}
pub use Rattle.model.specs.Commands.{Breaks, Ends, GoesOn, Goes_on, IsCommand, Makes, Pending, Stream, Taken, Takes, TakesFirst, TakesOn, TakesPayload, TakesSized, Wants_body, Wants_header, Yields, after_frame, awaited, beyond, broken, early, faulty, first, goes, heard, is_on_wrong_channel, is_too_large, later, most_body, most_header, now, pending_after, short, stays, taken_body, taken_dropped, taken_header, taken_heartbeat, taken_method}
pub use Rattle.model.specs.Frames.{Begins, Frame, IsBroken, frame_bytes}
pub use Rattle.model.specs.Grammar.{IsMethod, SaysMethod, class_at, split}
pub use Rattle.model.specs.Headers.{AreProperties, Header, IsNoHeader, SaysHeader, SaysSize, header_bytes, no_header, size, size_at, weight_at}
pub use Rattle.model.specs.Words.{Text}
pub use Rattle.model.specs.declared.events.Command.{Command}
pub use Rattle.model.specs.declared.events.Command.TheVariants.{Full, Head, Plain}
pub use Rattle.model.specs.declared.methods.Method.TheVariants.{BasicPublish}
pub use Rattle.model.specs.declared.methods.Publish.{Publish}
pub use Rattle.std.proofs.Common.{Bool, Err, List, MatchBool, None, Ok, Option, Result, Some, [], ap, append-nil, arith, drop, false, get_or, get_or-set_other, get_or-set_same, if◌then◌else◌, inl, inr, is_err, length, length-append, refl, rules, set, subst, suc, sym, take, tests, true, vec_len, zero, ℕ, ◌++◌, ◌+◌, ◌-◌, ◌<◌, ◌==◌, ◌^◌, ◌∙◌, ◌∷◌, ◌≡◌, ◌≤◌}
pub use Rattle.std.proofs.lemmas.Bool.{eq-eqb, eqb-false, eqb-true, false≢true, ltb-false}
pub use Rattle.std.proofs.lemmas.List.{append_cancel_left, drop-drop, get_or_default}
pub use Rattle.std.specs.Prelude.{OnErr, OnOk, nat_lt, ◌||◌}
