-- What reading a guarantees file returns (own). Each cause is about the whole file; of several the lowest-numbered one is reported.
use Rattle.std.specs.Prelude.{ℕ, List, Result, Ok, Err, Vec}
use Rattle.std.specs.declared.alloc.Global.{Global}
use Rattle.model.specs.Topology.{Topology}
use Rattle.model.specs.Guarantee.{Guarantee}
use Rattle.json_file.specs.declared.causes.FileCause.{FileCause}
use Rattle.json_file.specs.Files.{IsCauseReported, IsFileOf, IsFreeOf, IsLeastCause, IsUnreadFile}
use Rattle.guarantees.specs.Stated.{guarantees_at}
use Rattle.guarantees.specs.Causes.{AreClear}

-- the file is JSON and states the guarantees `gs`
abbrev pub IsGuaranteesFile : List ℕ → List Guarantee → Type 0
IsGuaranteesFile bytes gs = IsFileOf guarantees_at bytes gs

-- the condition of each cause, for the guarantees of a topology
abbrev pub AreClearFor : Topology → FileCause → List Guarantee → Type 0
AreClearFor t bad gs = AreClear bad t gs

-- This cause does not apply to the file.
abbrev pub AreFree : FileCause → Topology → List ℕ → Type 0
AreFree bad t bytes = IsFreeOf guarantees_at (AreClearFor t) bytes bad

-- This cause applies to the file, and none of a lower number does.
abbrev pub IsFirstAgainst : FileCause → Topology → List ℕ → Type 0
IsFirstAgainst bad t bytes = IsLeastCause (IsFreeOf guarantees_at (AreClearFor t) bytes) bad

-- a file is refused by its lowest-numbered cause; a refusal for an allocation failure promises nothing
abbrev pub AreRefused : FileCause → Topology → List ℕ → Type 0
AreRefused bad t bytes = IsCauseReported (IsFreeOf guarantees_at (AreClearFor t) bytes) bad

-- the guarantees that a file states, or the cause for which it is refused before its guarantees are known
abbrev pub OpensGuarantees : Result (Vec Guarantee Global) FileCause → List ℕ → Type 0
OpensGuarantees (Ok gs) bytes = IsGuaranteesFile bytes gs.items
OpensGuarantees (Err bad) bytes = IsUnreadFile guarantees_at bad bytes

-- No cause applies to the file, and `gs` are its guarantees.
pub record AreAccepted (gs : List Guarantee) (t : Topology) (bytes : List ℕ) : Type 0 where
  pub free : (bad : FileCause) → AreFree bad t bytes
  pub is_file : IsGuaranteesFile bytes gs

-- A file is read if and only if no cause applies to it, and its guarantees are returned; otherwise it is refused by its lowest-numbered cause.
abbrev pub ReadsGuarantees : Result (Vec Guarantee Global) FileCause → Topology → List ℕ → Type 0
ReadsGuarantees (Ok gs) t bytes = AreAccepted gs.items t bytes
ReadsGuarantees (Err bad) t bytes = AreRefused bad t bytes
