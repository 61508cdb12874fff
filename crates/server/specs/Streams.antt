-- What is written to standard output and standard error (own).
use Rattle.std.specs.Prelude.{◌≡◌, ◌<◌, ◌++◌, ℕ, length, Bool, true, false, Option, if◌then◌else◌}
use Rattle.std.specs.Io.KnownBytes.{Appends, Keeps}
use Rattle.model.specs.Words.{Text}

-- a stream before and after a call, if its bytes are known
pub record OutputStream : Type 0 where
  pub before : Option Text
  pub after : Option Text

-- a stream with the bytes `before` a call and `after` it
abbrev pub change : Option Text → Option Text → OutputStream
change before after = record { before = before; after = after }

-- a stream before and after a call; `contents` says what bytes are known of it in a state, and the call leads from `old` to `new`
abbrev pub gain : {S : Type 0} → (S → Option Text) → S → S → OutputStream
gain contents old new = change (contents old) (contents new)

-- nothing was written to the stream
abbrev pub GetsNothing : OutputStream → Type 0
GetsNothing s = Keeps s.before s.after

-- this text was appended to the stream
abbrev pub GetsText : OutputStream → Text → Type 0
GetsText s text = Appends s.before s.after text

-- a proper prefix of this text was appended to the stream
pub record GetsBeginning (s : OutputStream) (text : Text) : Type 0 where
  pub front : Text
  pub rest : Text
  pub whole : text ≡ front ++ rest
  pub left : 0 < length rest
  pub gets : GetsText s front

-- the stream took all of the text, or a proper prefix
abbrev pub PutsOut : OutputStream → Text → Bool → Type 0
PutsOut s text true = GetsText s text
PutsOut s text false = GetsBeginning s text

-- the exit status: `status`, or 4 if a stream did not take all of its text
abbrev pub status_after : Bool → ℕ → ℕ
status_after done status = if done then status else 4

-- the text was written to the stream, with exit status `wanted` if all of it was taken
abbrev pub TriesPut : OutputStream → Text → ℕ → ℕ → Type 0
TriesPut s text wanted status = (done : Bool) × PutsOut s text done × (status ≡ status_after done wanted)
