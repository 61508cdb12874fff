-- How a file is refused that cannot be read, or to which a cause applies (own).
use Rattle.std.specs.Prelude.{◌==◌, if◌then◌else◌}
use Rattle.json_file.specs.Causes.{cause_number}
use Rattle.json_file.specs.declared.causes.FileCause.{FileCause}
use Rattle.server.specs.declared.file_refusals.FileRefusal.{FileRefusal}
use Rattle.server.specs.declared.file_refusals.FileRefusal.TheVariants.{Refused, TooLong, Unread, NoDescriptor, Memory}
use Rattle.server.specs.declared.storage.Unread.{Unread as Why}
use Rattle.server.specs.declared.storage.Unread.TheVariants as why

-- the refusal of a file, by the reason why it could not be read
abbrev pub of_file : Why → FileRefusal
of_file why.Failed = Unread
of_file why.NoDescriptor = NoDescriptor
of_file why.TooLong = TooLong
of_file why.Memory = Memory

-- the refusal of a file to which a cause applies, by its number; 14 is an allocation failure
abbrev pub of_cause : FileCause → FileRefusal
of_cause cause = if cause_number cause == 14 then Memory else Refused (cause_number cause)
