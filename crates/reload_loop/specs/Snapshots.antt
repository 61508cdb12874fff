-- The three files of a broker, as they were read (own).
use Rattle.std.specs.Prelude.{◌≡◌, ℕ, Result, Ok, Err, if◌then◌else◌, ⊤}
use Rattle.std.specs.Global.{Vec}
use Rattle.std.specs.Str.{bytes_eq}
use Rattle.model.specs.Words.{Text}
use Rattle.server.specs.Files.{Known, Unknown, Absent, Holds, HasText, IsFileRead, IsUnreadable}
use Rattle.server.specs.declared.storage.Unread.{Unread}
use Rattle.server.specs.declared.storage.Unread.TheVariants as unread
use Rattle.scripts.specs.FileNames.{FileNames}
use Rattle.reload_loop.specs.declared.snapshots.Names.{Names}

-- the names of the three files
abbrev pub names_of : Names → FileNames
names_of n = record { definitions = n.definitions.now; guarantees = n.guarantees.now; certificates = n.certificates.now }

-- what is known of a file after a read with this result; nothing (`Unknown`) if the file was too long or an allocation failed
abbrev pub known_of : Result (Vec ℕ) Unread → Known
known_of (Ok bytes) = Holds bytes.items
known_of (Err unread.Failed) = Absent
known_of (Err unread.NoDescriptor) = Absent
known_of (Err unread.TooLong) = Unknown
known_of (Err unread.Memory) = Unknown

-- what the results of three reads say about the three files
pub record Snap : Type 0 where
  pub definitions : Known
  pub guarantees : Known
  pub certificates : Known

-- what is known of the file `name`; any file but the three counts as one that does not exist
abbrev pub known_in : FileNames → Snap → Text → Known
known_in names s name =
    if bytes_eq name names.definitions then s.definitions
    else if bytes_eq name names.guarantees then s.guarantees
    else if bytes_eq name names.certificates then s.certificates
    else Absent

-- the second argument is a possible result of reading a file of which `known` is known; `Unknown` always is
abbrev pub IsSlotOf : Known → Known → Type 0
IsSlotOf known (Holds text) = IsFileRead known text
IsSlotOf known Absent = IsUnreadable known
IsSlotOf known Unknown = ⊤

-- `s` has the results of reading the three files.
pub record IsReadFrom (holds : Text → Known) (names : FileNames) (s : Snap) : Type 0 where
  pub definitions : IsSlotOf (holds names.definitions) s.definitions
  pub guarantees : IsSlotOf (holds names.guarantees) s.guarantees
  pub certificates : IsSlotOf (holds names.certificates) s.certificates

-- the file was read, and has the text that was read
abbrev pub IsHeld : Known → Known → Type 0
IsHeld known (Holds text) = HasText known text
IsHeld known Absent = ⊥
IsHeld known Unknown = ⊥

-- Each of the three files was read, and has the text that `s` says.
pub record AreHeld (holds : Text → Known) (names : FileNames) (s : Snap) : Type 0 where
  pub definitions : IsHeld (holds names.definitions) s.definitions
  pub guarantees : IsHeld (holds names.guarantees) s.guarantees
  pub certificates : IsHeld (holds names.certificates) s.certificates

-- a text was read
abbrev pub WasRead : Known → Type 0
WasRead (Holds text) = ⊤
WasRead Absent = ⊥
WasRead Unknown = ⊥

-- each of the three files was read
pub record AllRead (s : Snap) : Type 0 where
  pub definitions : WasRead s.definitions
  pub guarantees : WasRead s.guarantees
  pub certificates : WasRead s.certificates

-- both reads returned a text, and the same one
abbrev pub IsSameText : Known → Known → Type 0
IsSameText (Holds s) (Holds t) = s ≡ t
IsSameText one other = ⊥

-- Each of the three files was read both times, with the same text.
pub record AreSame (one other : Snap) : Type 0 where
  pub definitions : IsSameText one.definitions other.definitions
  pub guarantees : IsSameText one.guarantees other.guarantees
  pub certificates : IsSameText one.certificates other.certificates

-- one of the three files has another text in `read` than in `kept`, or was not read for one of the two
abbrev pub IsOther : Snap → Snap → Type 0
IsOther read kept = AreSame read kept → ⊥
