-- How a command is refused because of a file that it names (own).
use Rattle.std.specs.Prelude.{◌≡◌}
use Rattle.model.specs.Words.{Text}
use Rattle.server.specs.declared.file_refusals.FileRefusal.{FileRefusal}
use Rattle.server.specs.declared.file_refusals.FileRefusal.TheVariants as file
use Rattle.server.specs.declared.storage.Unread.{Unread as Why}
use Rattle.server.specs.declared.storage.Unread.TheVariants as why
use Rattle.server.specs.declared.refusals.CommandRefusal.{CommandRefusal}
use Rattle.server.specs.declared.refusals.CommandRefusal.TheVariants.{Refused, TooLong, Unread, NoDescriptor, Memory}

-- the refusal of a command, by the reason why its file could not be read
abbrev pub of_unread : Why → CommandRefusal
of_unread why.Failed = Unread
of_unread why.NoDescriptor = NoDescriptor
of_unread why.TooLong = TooLong
of_unread why.Memory = Memory

-- the refusal of a command whose file is refused in this way
abbrev pub of_refused : FileRefusal → CommandRefusal
of_refused (file.Refused n) = Refused n
of_refused file.TooLong = TooLong
of_refused file.Unread = Unread
of_refused file.NoDescriptor = NoDescriptor
of_refused file.Memory = Memory

-- the command is refused because `file` is refused, in a way that `IsRefused` allows
abbrev pub IsOfFile : (Text → FileRefusal → Type 0) → Text → CommandRefusal → Type 0
IsOfFile IsRefused file why = (cause : FileRefusal) × (why ≡ of_refused cause) × IsRefused file cause
