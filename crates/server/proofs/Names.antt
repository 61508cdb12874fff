-- The names that several files of these proofs use.
pub use Rattle.certificate.specs.Certified.{AreCertified, AreCertifiedBelow, FailsFirst, IsCertifiedAt}
pub use Rattle.certificate.specs.Drafts.{Adds, IsDraft}
pub use Rattle.certificate.specs.declared.drafts.Draft.{Draft}
pub use Rattle.clap.specs.Words.{kind_of}
pub use Rattle.clap.specs.declared.error.Error.{Error}
pub use Rattle.command_line.specs.CommandLine.{AreWordsRefused, AsksFor, Wanted}
pub use Rattle.engine.specs.InForce.{in_force}
pub use Rattle.guarantee_search.specs.Verdicts.{FindsVerdict}
pub use Rattle.guarantee_search.specs.declared.verdicts.Verdict.{Verdict}
pub use Rattle.guarantee_search.specs.declared.verdicts.Verdict.TheVariants.{No, Undecided, Yes}
pub use Rattle.json_file.specs.Files.{IsCauseReported, IsFreeOf, IsLeastCause}
pub use Rattle.json_file.specs.declared.causes.FileCause.TheVariants.{TooMany}
pub use Rattle.model.specs.Guarantee.{AllHold, Guarantee, Holds}
pub use Rattle.model.specs.State.{Config}
pub use Rattle.model.specs.Topology.{IsIn, Topology, exchange_names, queue_names}
pub use Rattle.model.specs.Words.{Text}
pub use Rattle.scripts.specs.Transcript.{more_words, name_word}
pub use Rattle.server.specs.Clients.{Begins, CanCome, IsOfFiles, IsTaken, IsTurns, Openings, ServesClients, refused, shut, untaken}
pub use Rattle.server.specs.Files.{AreKept, AreKeptBut, HasText, Known, ReturnsSameRest}
pub use Rattle.server.specs.Outcomes.{AreOutcomes, Outcome, ReturnsOutcome, is_fault, of_too_many, outcome_lines, status_of_outcomes}
pub use Rattle.server.specs.Program.{AnswersBut, AreSetUp, Drafts, FailsOver, FailsToPlay, FailsToReload, FilesAreLeft, IsCommandAnswered, IsFiled, IsJudgedUnfiled, IsNotAnswered, IsSetUp, IsStarted, IsUnfiled, IsWhyNotSetUp, IsWhyUnadmitted, PutsBoth, RefusesWith, RunsAs, ShowsError, WritesOut, at, doubtful, filed, no_memory, no_room, no_run, not_admitted, not_certified, not_set_up, out_of_memory, printed, put_unfiled, refusal_line, replays, status_of, reported, unasked, uncertified, unforced, unloaded, unnamed, unplayed, unread, unread_script, unrouted, unset}
pub use Rattle.server.specs.Refusals.{IsOfFile, of_refused}
pub use Rattle.server.specs.Stated.{CertifiesAt, FailsToCertify, FailsToSetUp, HoldsCertificates, IsWhyNone, IsWhyNot, IsWhyUncertified, IsWhyUnpromised, PromisesAt, SetsUp, unpromised, unstated}
pub use Rattle.server.specs.Streams.{GetsNothing, GetsText, OutputStream, PutsOut, TriesPut, change, status_after}
pub use Rattle.server.specs.Verdicts.{EachWith, FindsVerdicts, IsMeant, Judges, JudgesAll, certificates_in, is_no, is_undecided, names_text, path_text, path_words, status_by, status_of_verdicts, verdict_line, verdict_lines}
pub use Rattle.server.specs.declared.file_refusals.FileRefusal.{FileRefusal}
pub use Rattle.server.specs.declared.refusals.CommandRefusal.{CommandRefusal}
pub use Rattle.server.specs.declared.refusals.CommandRefusal.TheVariants.{Line, NoDescriptor, NoExchange, NotListening, Refused, TooLong, Unread, Unwritten}
pub use Rattle.std.proofs.Common.{Bool, List, None, Option, Some, [], ap, append-nil, append_assoc, arith, drop, false, get_or, inl, inr, length, length-append, ltb, map, refl, subst, suc, sym, take, take-append-drop, true, zero, ℕ, ◌++◌, ◌+◌, ◌<◌, ◌∙◌, ◌∷◌, ◌≡◌, ◌≤◌}
pub use Rattle.std.proofs.lemmas.List.{length-take-le, take_more}
pub use Rattle.std.proofs.lemmas.Option.{same_Some, slice_get_read, slice_get_within}
pub use Rattle.std.specs.Io.KnownBytes.{Appends, Consumes, Keeps}
pub use Rattle.std.specs.List.{list_any}
pub use Rattle.std.specs.Prelude.{Decides, IsErrAnd, MatchResult, Result, codes, decimal, if◌then◌else◌, slice_get, string_bytes}
